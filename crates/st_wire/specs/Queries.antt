-- The forms of queries: commands that look at an image and change nothing.
use Rattle.std.specs.Prelude.{ℕ, ◌^◌, ◌-◌, List, [], ◌∷◌, codes, if◌then◌else◌, Option, Some, None, option_map}
use Rattle.std.specs.Str.{bytes_eq}
use Rattle.serde_json.specs.Data.{Data}
use Rattle.st_classes.specs.declared.values.ActorId.{ActorId}
use Rattle.st_wire.specs.declared.queries.Query.{Query}
use Rattle.st_wire.specs.declared.queries.Query.TheVariants.{Classes, Methods, Source, Versions, Implementors, Senders, Edits, Actors, Inspect, Fault, Faults, Status}
use Rattle.st_wire.specs.Fields.{actor_at, number_at, text_at, whole_at}
use Rattle.st_wire.specs.Keys.{of_keys}

-- a query of a class
abbrev pub of_class : (List ℕ → Query) → Data → Option Query
of_class query d = of_keys (codes "class" ∷ codes "cmd" ∷ []) d (option_map query (text_at (codes "class") d))

-- a query of a selector
abbrev pub of_selector : (List ℕ → Query) → Data → Option Query
of_selector query d = of_keys (codes "cmd" ∷ codes "selector" ∷ []) d (option_map query (text_at (codes "selector") d))

abbrev pub place_from : (List ℕ → List ℕ → Query) → Option (List ℕ) → Option (List ℕ) → Option Query
place_from query (Some class) (Some selector) = Some (query class selector)
place_from query _ _ = None

-- a query of a place of the class table: a class and a selector
abbrev pub of_place : (List ℕ → List ℕ → Query) → Data → Option Query
of_place query d = of_keys (codes "class" ∷ codes "cmd" ∷ codes "selector" ∷ []) d
    (place_from query (text_at (codes "class") d) (text_at (codes "selector") d))

abbrev pub edits_in : Data → Option Query
edits_in d = of_keys (codes "cmd" ∷ codes "from" ∷ []) d (option_map Edits (whole_at (codes "from") 0 (2 ^ 32 - 1) d))

abbrev pub actors_from : Option ℕ → Option ℕ → Option Query
actors_from (Some from) (Some most) = Some (Actors from most)
actors_from _ _ = None

abbrev pub actors_in : Data → Option Query
actors_in d = of_keys (codes "cmd" ∷ codes "from" ∷ codes "most" ∷ []) d
    (actors_from (whole_at (codes "from") 0 (2 ^ 32 - 1) d) (whole_at (codes "most") 1 4096 d))

abbrev pub inspect_in : Data → Option Query
inspect_in d = of_keys (codes "actor" ∷ codes "cmd" ∷ []) d (option_map Inspect (actor_at (codes "actor") d))

abbrev pub fault_from : Option ActorId → Option ℕ → Option Query
fault_from (Some actor) (Some turn) = Some (Fault actor turn)
fault_from _ _ = None

abbrev pub fault_in : Data → Option Query
fault_in d = of_keys (codes "actor" ∷ codes "cmd" ∷ codes "turn" ∷ []) d
    (fault_from (actor_at (codes "actor") d) (number_at (codes "turn") d))

abbrev pub faults_in : Data → Option Query
faults_in d = of_keys (codes "after" ∷ codes "cmd" ∷ []) d (option_map Faults (number_at (codes "after") d))

abbrev pub status_in : Data → Option Query
status_in d = of_keys (codes "cmd" ∷ []) d (Some Status)

-- the query of the form that `cmd` names
abbrev pub query_in : Data → List ℕ → Option Query
query_in d cmd =
    if bytes_eq cmd (codes "classes") then of_keys (codes "cmd" ∷ []) d (Some Classes)
    else (if bytes_eq cmd (codes "methods") then of_class Methods d
    else (if bytes_eq cmd (codes "source") then of_place Source d
    else (if bytes_eq cmd (codes "versions") then of_place Versions d
    else (if bytes_eq cmd (codes "implementors") then of_selector Implementors d
    else (if bytes_eq cmd (codes "senders") then of_selector Senders d
    else (if bytes_eq cmd (codes "edits") then edits_in d
    else (if bytes_eq cmd (codes "actors") then actors_in d
    else (if bytes_eq cmd (codes "inspect") then inspect_in d
    else (if bytes_eq cmd (codes "fault") then fault_in d
    else (if bytes_eq cmd (codes "faults") then faults_in d
    else (if bytes_eq cmd (codes "status") then status_in d
    else None)))))))))))
