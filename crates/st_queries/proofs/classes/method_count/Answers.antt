use Rattle.std.proofs.Common.{◌∙◌, ◌+◌, ap, length, ap₂, slice_index_or}
use Rattle.st_classes.specs.Classes.{class_count}
use Rattle.st_queries.proofs.Counting.{at_class, length_counts, within}
use Rattle.st_queries.proofs.classes.method_count.Goals as goal

pub bounds-installs-from : goal.bounds-installs-from
bounds-installs-from c =
    let edits = c.args.version.now in
    rw (c.requires.installs, c.from.ensures, length_counts edits (class_count edits) (length edits)) (within edits c.args.class c.requires.class)

pub returns : goal.returns
returns c =
    let edits = c.args.version.now in
    let class = c.args.class in
    let counted = c.from-2.ensures
    ∙ ap (λ k. slice_index_or c.args.installs.now k 0) c.from.ensures
    ∙ ap (λ ns. slice_index_or ns class.0 0) c.requires.installs
    ∙ at_class edits (class_count edits) (length edits) class (within edits class c.requires.class) in
    ap₂ (λ m n. m + n) counted (c.from-3.ensures ∙ c.kernel_methods.ensures)
