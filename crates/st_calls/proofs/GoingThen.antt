-- Images that go on in one another.
use Rattle.std.proofs.Common.{◌≡◌, List, [], ◌++◌, refl, ap, sym, subst, ◌∙◌, arith, append_assoc, append-nil}
use Rattle.st_classes.specs.declared.edits.Edit.{Edit}
use Rattle.st_classes.specs.EditLists.{Begins}
use Rattle.st_image.specs.Images.{ImageView, world}
use Rattle.st_image.specs.Commits.{changed_at}
use Rattle.st_image.specs.GoingOn.{GoesOnIn}
use Rattle.st_image.proofs.Following.{begins_same, begins_then}
use Rattle.st_image.proofs.KnownBodies.{last_as_before}

pub goes_same : (i : ImageView) → GoesOnIn i i
goes_same i = record { edits = begins_same (world i).edits; bodies = last_as_before i i refl refl refl }

pub goes_by : (i j : ImageView) → i ≡ j → GoesOnIn i j
goes_by i j e = subst (GoesOnIn i) e (goes_same i)

pub goes_then : (i j k : ImageView) → GoesOnIn i j → GoesOnIn j k → GoesOnIn i k
goes_then i j k p q = record {
  edits = begins_then (world i).edits (world j).edits (world k).edits p.edits q.edits;
  bodies = λ a.
      let s = p.bodies a in
      let t = q.bodies a in (
        omega (arith, s.0, t.0),
        λ b e at.
            let first : changed_at j a.0 ≡ changed_at i a.0 = omega (arith, s.0, t.0, e) in
            let last : changed_at k a.0 ≡ changed_at j a.0 = omega (arith, s.0, t.0, e) in
            t.1 b last (s.1 b first at),
      );
}
