-- The calls that read, by the checks that lead to each answer. Assumes nothing.
use Rattle.std.specs.Prelude.{Result, Ok, Err, Bool}
use Prim.Native.Nat.{ℕ}
use mathlib.Core.Bool.{true, false}
use mathlib.Core.List.{List}
use mathlib.Core.Path.{◌≡◌, sym, ap, ◌∙◌}
use lib.Dec.{ltb}
use lib.ListN.{length}
use borrow.Author.Tests.{ltb-true}
use Rattle.number.specs.Blocks.{blocks}
use Rattle.layout.specs.declared.Container.{Container}
use Rattle.layout.specs.declared.Refusal.{Refusal}
use Rattle.layout.specs.declared.Refusal.TheVariants.{NoPartition}
use Rattle.layout.specs.Opening.{opened}
use Rattle.layout.specs.Guarantees.{Guarantees}
use Rattle.layout.proofs.GuaranteeLaws.{guarantees}
use Rattle.ivfc.specs.declared.View.{View}
use Rattle.ivfc.specs.Views.{level_of, verified}
use Rattle.ivfc.specs.Verified.{count_of}
use Rattle.ivfc.specs.Rules.{ViewRules}
use Rattle.views.specs.Places.{partitions, committed_view}
use Rattle.views.specs.Rules.{PlacesFit}
use Rattle.views.proofs.PlaceLaws.{committed_rules}
use Rattle.views.proofs.FitLaws.{places_fit}
use Rattle.steps.specs.Rules.{refusal_of}
use Rattle.steps.specs.Reading.{read_from, verdict_on, count_in}
use Rattle.steps.specs.Calls.{read_committed, is_verified, count_verified}
use Rattle.steps.proofs.ReadLaws.{Leaves}

-- the refusal that a call hands on
pub refusal_is : (a : Result Container Refusal) (r x : Refusal) → a ≡ Err r → x ≡ refusal_of a → x ≡ r
refusal_is a r x e h = h ∙ ap refusal_of e

pub refused_is : (a : Result Container Refusal) (r x : Refusal) → a ≡ Err r → x ≡ refusal_of a → a ≡ Err x
refused_is a r x e h = e ∙ ap Err (sym (refusal_is a r x e h))

module _ (image : List ℕ) (a : Result Container Refusal) (o : a ≡ opened image) where
  -- an image that opens keeps to what opening guarantees
  pub opens_well : (c : Container) → a ≡ Ok c → Guarantees image c
  opens_well c e = guarantees image c (sym o ∙ e)

  module _ (q : ℕ) (c : Container) (e : a ≡ Ok c) (there : ltb q (partitions c) ≡ true) where
    pub places : PlacesFit c q
    places = places_fit image c (opens_well c e) q (ltb-true q (partitions c) there)

    pub committed_keeps : (view : View) → view ≡ committed_view c q → ViewRules view (length image)
    committed_keeps view v = rw v (committed_rules image c (opens_well c e) q (ltb-true q (partitions c) there))

  module _ (q place : ℕ) (buffer : List ℕ) where
    pub committed_unopened : (r : Refusal) → a ≡ Err r → Leaves (read_committed image q place buffer) (Err r) buffer
    unfolding read_committed
    committed_unopened r e = (rw (sym o ∙ e), rw (sym o ∙ e))

    module _ (c : Container) (e : a ≡ Ok c) where
      pub committed_missing : ltb q (partitions c) ≡ false → Leaves (read_committed image q place buffer) (Err NoPartition) buffer
      unfolding read_committed
      committed_missing k = (rw (sym o ∙ e, k), rw (sym o ∙ e, k))

      pub committed_there : ltb q (partitions c) ≡ true → (view : View) → view ≡ committed_view c q → (answer : Result (Unit {0}) Refusal) (after : List ℕ)
          → Leaves (read_from view image place buffer) answer after → Leaves (read_committed image q place buffer) answer after
      unfolding read_committed
      committed_there k view v answer after l = rw (sym o ∙ e, k, ← v) l

  module _ (q : ℕ) where
    pub verdict_unopened : (block : ℕ) (r : Refusal) → a ≡ Err r → Err r ≡ is_verified image q block
    unfolding is_verified
    verdict_unopened block r e = rw (sym o ∙ e)

    pub count_unopened : (r : Refusal) → a ≡ Err r → Err r ≡ count_verified image q
    unfolding count_verified
    count_unopened r e = rw (sym o ∙ e)

    module _ (c : Container) (e : a ≡ Ok c) where
      pub verdict_missing : (block : ℕ) → ltb q (partitions c) ≡ false → Err NoPartition ≡ is_verified image q block
      unfolding is_verified
      verdict_missing block k = rw (sym o ∙ e, k)

      pub verdict_there : (block : ℕ) → ltb q (partitions c) ≡ true → (view : View) → view ≡ committed_view c q → (answer : Result Bool Refusal)
          → answer ≡ verdict_on view image block → answer ≡ is_verified image q block
      unfolding is_verified
      verdict_there block k view v answer h = rw (sym o ∙ e, k, ← v) h

      pub count_missing : ltb q (partitions c) ≡ false → Err NoPartition ≡ count_verified image q
      unfolding count_verified
      count_missing k = rw (sym o ∙ e, k)

      pub count_there : ltb q (partitions c) ≡ true → (view : View) → view ≡ committed_view c q → (n : ℕ)
          → n ≡ count_of (verified view image 4) (blocks (level_of view 4)) → Ok n ≡ count_verified image q
      unfolding count_verified count_in level_of
      count_there k view v n h = rw (sym o ∙ e, k, ← v, h)
