-- The world of parts that fit.
use Rattle.std.proofs.Common.{◌≤◌, ℕ, List, ◌++◌, All, map, sym, ap, subst, ◌∙◌, length, drop, take-append-drop}
use Rattle.std.proofs.lemmas.List.{length-map}
use Rattle.std.proofs.lemmas.List.Elements.{All-map}
use Rattle.st_classes.specs.declared.edits.Edit.{Edit}
use Rattle.st_classes.specs.EditLists.{AreLawful, AllSuit, AllSound}
use Rattle.st_classes.specs.Names.{AreNames}
use Rattle.st_image.specs.declared.actor_part.ActorPart.{ActorPart}
use Rattle.st_image.specs.Parts.{actor_of, world_of_parts}
use Rattle.st_image.specs.WorldInvariant.{AreClientsFrom, BeginsWithKernel, IsWorld, IsWorldActor}

kernel_first : (names : List (List ℕ)) → AreNames names → BeginsWithKernel names
kernel_first names h = (drop 22 names, sym (take-append-drop 22 names) ∙ ap (λ (first : List (List ℕ)). first ++ drop 22 names) h.kernel)

pub parts_world : (names : List (List ℕ)) (edits : List Edit) (parts : List ActorPart) (clients : List (ℕ × ℕ)) (capacity : ℕ)
    → AreNames names → AreLawful edits → AllSuit names edits → AllSound edits
    → All (λ (a : ActorPart). IsWorldActor names edits (length parts) (actor_of a)) parts
    → AreClientsFrom 0 clients → 1 ≤ capacity → capacity ≤ 1024
    → IsWorld (record { names = names; capacity = capacity }) (world_of_parts edits parts clients)
parts_world names edits parts clients capacity known lawful suited sound actors rising some few = record {
  constants = record { kernel = kernel_first names known; some_capacity = some; few_messages = few };
  lawful = lawful;
  suited = suited;
  sound = sound;
  actors = subst (λ (n : ℕ). All (IsWorldActor names edits n) (map actor_of parts)) (sym (length-map parts actor_of)) (All-map (IsWorldActor names edits (length parts)) actor_of parts actors);
  clients = rising;
}
