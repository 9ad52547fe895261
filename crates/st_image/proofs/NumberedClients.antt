-- Clients that rise, place by place.
use Rattle.std.proofs.Common.{ℕ, List, drop}
use Rattle.st_image.specs.WorldInvariant.{AreClientsFrom}

-- so many clients rise: the rest does, from a number on, where all do
pub record RiseTo (clients : List (ℕ × ℕ)) (place least : ℕ) : Type 0 where
  pub on : AreClientsFrom least (drop place clients) → AreClientsFrom 0 clients
  pub back : AreClientsFrom 0 clients → AreClientsFrom least (drop place clients)
