-- The names of refusals and faults on the wire.
use Rattle.std.specs.Prelude.{ℕ, List, codes}
use Rattle.st_classes.specs.declared.faults.Fault.{Fault}
use Rattle.st_classes.specs.declared.faults.Fault.TheVariants.{NotUnderstood, Overflow, ZeroDivide, BadArgument, MustBeBoolean, StackOverflow, HeapFull, LocalArgument, TooManyActors}
use Rattle.st_classes.specs.declared.refusals.SourceFault.{SourceFault}
use Rattle.st_classes.specs.declared.refusals.SourceFault.TheVariants.{TooLarge, BadCharacter, BadToken, BadPattern, Nested, DuplicateName, ReadOnly, BlockEscapes, UnknownName}
use Rattle.st_classes.specs.declared.refusals.Limited.{Limited}
use Rattle.st_classes.specs.declared.refusals.Limited.TheVariants.{Classes, Slots, Edits, Names, Actors, Sessions}
use Rattle.st_classes.specs.declared.refusals.ImagePlace.{ImagePlace}
use Rattle.st_classes.specs.declared.refusals.ImagePlace.TheVariants as place
use Rattle.st_classes.specs.declared.refusals.Refusal.{Refusal}
use Rattle.st_classes.specs.declared.refusals.Refusal.TheVariants.{UnknownClass, ClassExists, KernelClass, KernelMethod, BadName, SlotClash, TooDeep, BadSource, NoSuchMethod, UnknownActor, Closed, Full, Old, BadArguments, NothingToDo, Stale, Changed, TooMany, Pending, Expired, BadCommand, TooLong, BadImage, HistoryFull, NoMemory, ReadFault, WriteFault, Cycle, SlotsDiffer}

-- the names of the faults
abbrev pub fault_name : Fault → List ℕ
fault_name NotUnderstood = codes "notUnderstood"
fault_name Overflow = codes "overflow"
fault_name ZeroDivide = codes "zeroDivide"
fault_name BadArgument = codes "badArgument"
fault_name MustBeBoolean = codes "mustBeBoolean"
fault_name StackOverflow = codes "stackOverflow"
fault_name HeapFull = codes "heapFull"
fault_name LocalArgument = codes "localArgument"
fault_name TooManyActors = codes "tooManyActors"

-- the kinds of bad source
abbrev pub kind_name : SourceFault → List ℕ
kind_name TooLarge = codes "TooLarge"
kind_name BadCharacter = codes "BadCharacter"
kind_name BadToken = codes "BadToken"
kind_name BadPattern = codes "BadPattern"
kind_name Nested = codes "Nested"
kind_name DuplicateName = codes "DuplicateName"
kind_name ReadOnly = codes "ReadOnly"
kind_name BlockEscapes = codes "BlockEscapes"
kind_name UnknownName = codes "UnknownName"

-- what can be too many
abbrev pub limited_name : Limited → List ℕ
limited_name Classes = codes "classes"
limited_name Slots = codes "slots"
limited_name Edits = codes "edits"
limited_name Names = codes "names"
limited_name Actors = codes "actors"
limited_name Sessions = codes "sessions"

-- the parts of an image file
abbrev pub place_name : ImagePlace → List ℕ
place_name place.Json = codes "json"
place_name place.Shape = codes "shape"
place_name place.Names = codes "names"
place_name place.Edits = codes "edits"
place_name place.Actors = codes "actors"
place_name place.Senders = codes "senders"

-- the names of the refusals
abbrev pub refusal_name : Refusal → List ℕ
refusal_name UnknownClass = codes "UnknownClass"
refusal_name ClassExists = codes "ClassExists"
refusal_name KernelClass = codes "KernelClass"
refusal_name KernelMethod = codes "KernelMethod"
refusal_name BadName = codes "BadName"
refusal_name SlotClash = codes "SlotClash"
refusal_name TooDeep = codes "TooDeep"
refusal_name (BadSource kind offset) = codes "BadSource"
refusal_name NoSuchMethod = codes "NoSuchMethod"
refusal_name UnknownActor = codes "UnknownActor"
refusal_name Closed = codes "Closed"
refusal_name Full = codes "Full"
refusal_name (Old last) = codes "Old"
refusal_name BadArguments = codes "BadArguments"
refusal_name NothingToDo = codes "NothingToDo"
refusal_name (Stale version) = codes "Stale"
refusal_name Changed = codes "Changed"
refusal_name (TooMany what) = codes "TooMany"
refusal_name Pending = codes "Pending"
refusal_name Expired = codes "Expired"
refusal_name BadCommand = codes "BadCommand"
refusal_name TooLong = codes "TooLong"
refusal_name (BadImage place) = codes "BadImage"
refusal_name HistoryFull = codes "HistoryFull"
refusal_name NoMemory = codes "NoMemory"
refusal_name ReadFault = codes "ReadFault"
refusal_name WriteFault = codes "WriteFault"
refusal_name Cycle = codes "Cycle"
refusal_name SlotsDiffer = codes "SlotsDiffer"
