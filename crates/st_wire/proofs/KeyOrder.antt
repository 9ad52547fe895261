-- The keys of replies.
use Rattle.std.proofs.Common.{◌≡◌, true, List, [], ◌∷◌, refl}
use Rattle.st_classes.specs.declared.refusals.Refusal.{Refusal}
use Rattle.st_classes.specs.declared.refusals.Refusal.TheVariants.{UnknownClass, ClassExists, KernelClass, KernelMethod, BadName, SlotClash, TooDeep, BadSource, NoSuchMethod, UnknownActor, Closed, Full, Old, BadArguments, NothingToDo, Stale, Changed, TooMany, Pending, Expired, BadCommand, TooLong, BadImage, HistoryFull, NoMemory, ReadFault, WriteFault, Cycle, SlotsDiffer}
use Rattle.st_wire.specs.declared.replies.Answered.{Answered}
use Rattle.st_wire.specs.declared.replies.Answered.TheVariants as value
use Rattle.st_wire.specs.declared.replies.SiteReport.{SiteReport}
use Rattle.st_wire.specs.declared.replies.Reply.TheVariants as reply
use Rattle.st_wire.specs.Replies.{site_items, reply_data, keys_rise, keys_rise_in_items, RepliesHaveKeysInOrder}

in_answer : (v : Answered) → keys_rise (reply_data (reply.Answer v)) ≡ true
in_answer (value.Int z) = refl
in_answer (value.Bool b) = refl
in_answer value.Nil = refl
in_answer (value.Symbol text) = refl
in_answer (value.Class text) = refl
in_answer (value.Actor a) = refl
in_answer (value.Local n) = refl

in_sites : (sites : List SiteReport) → keys_rise_in_items (site_items sites) ≡ true
in_sites [] = refl
in_sites (s ∷ sites) = in_sites sites

in_refusal : (e : Refusal) → keys_rise (reply_data (reply.Refused e)) ≡ true
in_refusal UnknownClass = refl
in_refusal ClassExists = refl
in_refusal KernelClass = refl
in_refusal KernelMethod = refl
in_refusal BadName = refl
in_refusal SlotClash = refl
in_refusal TooDeep = refl
in_refusal (BadSource kind offset) = refl
in_refusal NoSuchMethod = refl
in_refusal UnknownActor = refl
in_refusal Closed = refl
in_refusal Full = refl
in_refusal (Old last) = refl
in_refusal BadArguments = refl
in_refusal NothingToDo = refl
in_refusal (Stale version) = refl
in_refusal Changed = refl
in_refusal (TooMany what) = refl
in_refusal Pending = refl
in_refusal Expired = refl
in_refusal BadCommand = refl
in_refusal TooLong = refl
in_refusal (BadImage place) = refl
in_refusal HistoryFull = refl
in_refusal NoMemory = refl
in_refusal ReadFault = refl
in_refusal WriteFault = refl
in_refusal Cycle = refl
in_refusal SlotsDiffer = refl

pub keys_in_order : RepliesHaveKeysInOrder
keys_in_order (reply.Version n) in_parts = refl
keys_in_order (reply.Actor a) in_parts = refl
keys_in_order (reply.Turn n) in_parts = refl
keys_in_order reply.Closed in_parts = refl
keys_in_order (reply.Ran quanta steps) in_parts = refl
keys_in_order (reply.Counted posts steps) in_parts = refl
keys_in_order (reply.Saved n) in_parts = refl
keys_in_order (reply.Checked actors classes edits) in_parts = refl
keys_in_order (reply.Answer value) in_parts = in_answer value
keys_in_order (reply.Fault fault) in_parts = refl
keys_in_order (reply.Sites sites) in_parts = rw (in_sites sites) refl
keys_in_order (reply.Told told) in_parts = absurd in_parts
keys_in_order (reply.Refused refusal) in_parts = in_refusal refusal
