-- The edits of an image begin those of the image to which an entry leads.
use Rattle.std.proofs.Common.{[], ◌∷◌, ap, sym}
use Rattle.st_classes.specs.EditLists.{Begins}
use Rattle.st_image.specs.Images.{ImageView, world}
use Rattle.st_image.specs.WorldInvariant.{IsLawful}
use Rattle.st_image.specs.Worlds.{World}
use Rattle.st_image.proofs.Checkpointing.{anew_later}
use Rattle.st_image.proofs.Following.{begins_by}
use Rattle.st_image.proofs.GrowingEdits.{edits_grow}
use Rattle.st_journal.specs.declared.entries.Entry.{Entry}
use Rattle.st_journal.specs.declared.entries.Entry.TheVariants as entry
use Rattle.st_journal.specs.Entries.{Does, Leads}

does_grow : (i : ImageView) (e : Entry) (j : ImageView) → IsLawful i → IsLawful j → Does i e j → Begins (world i).edits (world j).edits
does_grow i e j li lj d = edits_grow i j li lj (record {
  base = ap (λ (k : ImageView). k.base) d.redone.image;
  items = d.happened ∷ [];
  history = ap (λ (k : ImageView). k.history) d.redone.image;
})

pub leads_grow : (i : ImageView) (e : Entry) (j : ImageView) → IsLawful i → IsLawful j → Leads i e j → Begins (world i).edits (world j).edits
leads_grow i (entry.Name text) j li lj d = begins_by (world j).edits (world i).edits (ap (λ (w : World). w.edits) (sym d.world))
leads_grow i entry.Checkpoint j li lj d = (anew_later i j d).edits
leads_grow i (entry.Define name parent slots) j li lj d = does_grow i (entry.Define name parent slots) j li lj d
leads_grow i (entry.Install class source) j li lj d = does_grow i (entry.Install class source) j li lj d
leads_grow i (entry.Remove class selector) j li lj d = does_grow i (entry.Remove class selector) j li lj d
leads_grow i (entry.Reparent class parent) j li lj d = does_grow i (entry.Reparent class parent) j li lj d
leads_grow i (entry.Created class) j li lj d = does_grow i (entry.Created class) j li lj d
leads_grow i (entry.Posted actor message) j li lj d = does_grow i (entry.Posted actor message) j li lj d
leads_grow i (entry.Closed actor) j li lj d = does_grow i (entry.Closed actor) j li lj d
leads_grow i (entry.Begun actor) j li lj d = does_grow i (entry.Begun actor) j li lj d
leads_grow i (entry.Ran actor steps) j li lj d = does_grow i (entry.Ran actor steps) j li lj d
