use Rattle.std.proofs.Common.{arith, ◌≡◌, ℕ, [], List, length, refl, ap, ◌∙◌, subst}
use Rattle.st_image.specs.Worlds.{client_last}
use Rattle.st_image.specs.Clients.{number_of}
use Rattle.st_image.specs.Parts.{world_of_parts}
use Rattle.st_image.specs.ActorViews.{ActorsView}
use Rattle.st_image.specs.ClaimsOut.{trimmed}
use Rattle.st_image.specs.declared.actor_part.ActorPart.{ActorPart}
use Rattle.st_classes.specs.declared.edits.Edit.{Edit}
use Rattle.st_image.proofs.Acts.{kept_is}
use Rattle.st_image.proofs.Bases.{at_base_is, default, fit_mailboxes, loaded_by, none_out}
use Rattle.st_image.proofs.Sends.{sends_new}
use Rattle.st_image.proofs.ChangeBounds.{fits_loaded}
use Rattle.st_image.proofs.image.Image.at_base.Goals as goal

pub of-requires-clause-fit : goal.of-requires-clause-fit
of-requires-clause-fit g c = fit_mailboxes c.args.names c.args.version c.args.parts.items c.requires.actors

pub invariant_of-result : goal.invariant_of-result
invariant_of-result g c =
    let names : List (List ℕ) = c.args.names in
    let edits : List Edit = c.args.version in
    let parts : List ActorPart = c.args.parts.items in
    let clients : List (ℕ × ℕ) = c.args.clients.items in
    rw (c.in_ok-made.ensures.base, c.in_ok-made.ensures.token, kept_is _ _ c.in_ok-made.ensures.actors, c.as_slice.ensures.value, c.new.ensures.items, c.new-2.ensures, c.new-3.ensures, c.counted.ensures, c.in_ok-failures.ensures) (record {
      image = at_base_is names edits parts clients c.known.ensures c.known-2.ensures.lawful c.requires.suited c.known-2.ensures.sound c.requires.actors c.requires.senders;
      numbers_of_clients = λ s. subst (λ (ps : List (ℕ × ℕ)). client_last s ps ≡ number_of c.in_ok-made.made.clients s) c.as_slice.ensures.value (c.in_ok-made.ensures.clients s);
      sends = sends_new names (world_of_parts edits parts clients) default;
      counts = λ a. refl;
      totals = record { counts = refl; few_posts = omega (arith, c.requires.counts.posts); few_steps = omega (arith, c.requires.counts.steps) };
      compiled = c.requires.compiled;
      before = fits_loaded c.args.counts (world_of_parts edits parts clients);
      failures = refl;
    })

pub returns : goal.returns
returns g c =
    let base : c.in_ok-made.made.base ≡ world_of_parts c.args.version c.args.parts.items c.args.clients.items = c.in_ok-made.ensures.base ∙ ap (λ (ps : List (ℕ × ℕ)). world_of_parts c.args.version c.args.parts.items ps) c.as_slice.ensures.value in
    let out : trimmed c.in_ok-made.made.actors.out ≡ [] = ap (λ (v : ActorsView). trimmed v.out) c.in_ok-made.ensures.actors ∙ none_out (length c.args.parts.items) in
    loaded_by c.args.names c.args.version c.args.parts.items c.args.clients.items c.in_ok-made.made.base c.new.result.items c.in_ok-made.made.actors.out c.new-2.result c.counted.result c.args.counts base c.new.ensures.items out c.new-2.ensures c.counted.ensures
