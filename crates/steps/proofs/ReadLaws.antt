-- What a read answers, by cases. Assumes nothing.
use Rattle.std.specs.Prelude.{Result, Ok, Err}
use Prim.Native.Nat.{ℕ, zero, suc, ◌+◌, ◌-◌, ◌≤◌, ◌<◌}
use mathlib.Core.Bool.{Bool, true, false}
use mathlib.Core.List.{List}
use mathlib.Core.Path.{◌≡◌, refl, sym, ap, ◌∙◌}
use native.Mathlib.Omega.{arith}
use lib.Dec.{leb}
use lib.ListN.{length}
use borrow.Author.Tests.{ne_eqb, eq-eqb, lt-ltb, le-ltb, leb-true}
use Rattle.number.specs.declared.Level.{Level}
use Rattle.number.specs.Blocks.{blocks, block_of, last_block}
use Rattle.number.specs.Ranges.{inside}
use Rattle.number.specs.Bytes.{bytes}
use Rattle.number.proofs.BlockLaws.{block_mono, block_exists}
use Rattle.layout.specs.declared.Refusal.{Refusal}
use Rattle.layout.specs.declared.Refusal.TheVariants.{OutOfRange, Unverified}
use Rattle.ivfc.specs.declared.View.{View}
use Rattle.ivfc.specs.Views.{level_of, content_of, verified}
use Rattle.ivfc.specs.Verified.{first_not}
use Rattle.steps.specs.Reading.{touched, refuse_lowest, refuse_outside, read_outcome, Read, read_from, verdict_on}

-- a range of some bytes touches the blocks from that of its first byte to that of its last
module _ (l : Level) (place n : ℕ) (some : 0 < n) where
  pub first_last : block_of l place ≤ last_block l place n
  unfolding last_block
  first_last = block_mono l place (place + n - 1) (omega arith)

  pub touched_some : touched l place n ≡ suc (last_block l place n) - block_of l place
  unfolding touched
  touched_some = rw (ne_eqb n 0 (λ e. omega arith))

  pub touched_ends : block_of l place + touched l place n ≡ suc (last_block l place n)
  touched_ends = omega (arith, touched_some, first_last)

-- the lowest touched block at which P does not hold, where a search found one, and where it found none
module _ (P : ℕ → Bool) (view : View) (place n lowest : ℕ) (some : 0 < n)
    (found : lowest ≡ first_not P (block_of view.level4 place) (suc (last_block view.level4 place n) - block_of view.level4 place)) where
  pub lowest_refused : lowest ≤ last_block view.level4 place n → refuse_lowest P view place n ≡ Err (Unverified lowest)
  unfolding refuse_lowest
  lowest_refused h =
      rw (touched_ends view.level4 place n some, touched_some view.level4 place n some, ← found, lt-ltb lowest (suc (last_block view.level4 place n)) (omega arith))

  pub none_refused : last_block view.level4 place n < lowest → refuse_lowest P view place n ≡ Ok tt
  unfolding refuse_lowest
  none_refused h =
      rw (touched_ends view.level4 place n some, touched_some view.level4 place n some, ← found, le-ltb lowest (suc (last_block view.level4 place n)) (omega arith))

-- a range of no bytes touches none
pub nothing_touched : (P : ℕ → Bool) (view : View) (place n : ℕ) → n ≡ 0 → refuse_lowest P view place n ≡ Ok tt
unfolding refuse_lowest touched first_not
nothing_touched P view place n e =
    rw (eq-eqb n 0 e, le-ltb (block_of view.level4 place) (block_of view.level4 place + 0) (omega arith))

-- 9
module _ (view : View) (place n : ℕ) (next : Result (Unit {0}) Refusal) where
  pub outside_refused : leb (place + n) view.level4.size ≡ false → refuse_outside view place n next ≡ Err OutOfRange
  unfolding refuse_outside
  outside_refused e = rw e

  pub inside_passes : leb (place + n) view.level4.size ≡ true → refuse_outside view place n next ≡ next
  unfolding refuse_outside
  inside_passes e = rw e

-- the blocks that a range in level 4 touches exist
pub last_exists : (view : View) (place n : ℕ) → 0 < n → place + n ≤ view.level4.size → last_block view.level4 place n < blocks view.level4
unfolding last_block
last_exists view place n some h = block_exists view.level4 (place + n - 1) (omega arith)

-- an accepted read lies in level 4
pub accepted_inside : (view : View) (image : List ℕ) (place n : ℕ) → read_outcome view image place n ≡ Ok tt → place + n ≤ view.level4.size
unfolding read_outcome
accepted_inside view image place n e = go (leb (place + n) view.level4.size) refl
  where
    go : (t : Bool) → leb (place + n) view.level4.size ≡ t → place + n ≤ view.level4.size
    go true p = leb-true (place + n) view.level4.size p
    go false p =
        let q : ◌≡◌ {A = Result (Unit {0}) Refusal} (Err OutOfRange) (Ok tt) = sym (outside_refused view place n (refuse_lowest (verified view image 4) view place n) p) ∙ e in
        let z : ◌≡◌ {A = ℕ} 0 1 = cc in
        absurd (omega arith)

-- ---- the same as the code finds it

-- what a read leaves, as its two parts
abbrev pub Leaves : Read → Result (Unit {0}) Refusal → (buffer : List ℕ) → Type 0
Leaves read answer buffer = (answer ≡ read.outcome) × (buffer ≡ read.buffer)

module _ (view : View) (image : List ℕ) (place n : ℕ) where
  pub in_level : inside place n view.level4.size ≡ true → place + n ≤ view.level4.size
  unfolding inside
  in_level e = leb-true (place + n) view.level4.size e

  pub read_outside : inside place n view.level4.size ≡ false → Err OutOfRange ≡ read_outcome view image place n
  unfolding read_outcome inside
  read_outside e = sym (outside_refused view place n (refuse_lowest (verified view image 4) view place n) e)

  module _ (i : inside place n view.level4.size ≡ true) where
    pub read_nothing : n ≡ 0 → (Ok tt) ≡ read_outcome view image place n
    unfolding read_outcome inside
    read_nothing e =
        sym (inside_passes view place n (refuse_lowest (verified view image 4) view place n) i
        ∙ nothing_touched (verified view image 4) view place n e)

    module _ (first last : ℕ) (some : n ≡ 0 → ⊥) (f : first ≡ block_of view.level4 place) (l : last ≡ block_of view.level4 (place + (n - 1))) where
      pub positive : 0 < n
      positive = omega (arith, nonzero n some)
        where
          nonzero : (k : ℕ) → (k ≡ 0 → ⊥) → 0 < k
          nonzero zero h = absurd (h refl)
          nonzero (suc k) h = omega arith

      pub last_is : last ≡ last_block view.level4 place n
      unfolding last_block
      last_is = let e : place + (n - 1) ≡ place + n - 1 = omega (arith, positive) in l ∙ ap (block_of view.level4) e

      pub in_order : first ≤ last
      in_order = omega (arith, f, last_is, first_last view.level4 place n positive)

      pub last_there : last < blocks (level_of view 4)
      unfolding level_of
      last_there = omega (arith, last_is, last_exists view place n positive (in_level i))

      module _ (lowest : ℕ) (found : lowest ≡ first_not (verified view image 4) first (suc last - first)) where
        found_is : lowest ≡ first_not (verified view image 4) (block_of view.level4 place) (suc (last_block view.level4 place n) - block_of view.level4 place)
        found_is = found ∙ rw (f, last_is)

        pub read_lowest : lowest ≤ last → Err (Unverified lowest) ≡ read_outcome view image place n
        unfolding read_outcome inside
        read_lowest h =
            sym (inside_passes view place n (refuse_lowest (verified view image 4) view place n) i
            ∙ lowest_refused (verified view image 4) view place n lowest positive found_is (omega (arith, last_is)))

        pub read_all : last < lowest → (Ok tt) ≡ read_outcome view image place n
        unfolding read_outcome inside
        read_all h =
            sym (inside_passes view place n (refuse_lowest (verified view image 4) view place n) i
            ∙ none_refused (verified view image 4) view place n lowest positive found_is (omega (arith, last_is)))

module _ (view : View) (image : List ℕ) (place : ℕ) (buffer : List ℕ) (answer : Result (Unit {0}) Refusal) (a : answer ≡ read_outcome view image place (length buffer)) where
  pub view_refused : (r : Refusal) → answer ≡ Err r → Leaves (read_from view image place buffer) answer buffer
  unfolding read_from
  view_refused r e = (a, rw (sym a ∙ e))

  pub view_fits : answer ≡ Ok tt → place + length buffer ≤ (level_of view 4).size
  unfolding level_of
  view_fits e = accepted_inside view image place (length buffer) (sym a ∙ e)

  pub view_accepted : (after : List ℕ) → answer ≡ Ok tt → after ≡ bytes (content_of view image 4) place (length buffer)
      → Leaves (read_from view image place buffer) (Ok tt) after
  unfolding read_from
  view_accepted after e h = (sym e ∙ a, h ∙ rw (sym a ∙ e))

-- is a block verified
module _ (view : View) (image : List ℕ) (b count : ℕ) (n : count ≡ blocks view.level4) where
  pub block_missing : count ≤ b → Err OutOfRange ≡ verdict_on view image b
  unfolding verdict_on
  block_missing h = rw (le-ltb b (blocks view.level4) (omega arith))

  pub block_there : b < count → b < blocks (level_of view 4)
  unfolding level_of
  block_there h = omega arith

  pub block_said : b < count → (t : Bool) → t ≡ verified view image 4 b → Ok t ≡ verdict_on view image b
  unfolding verdict_on
  block_said h t e = rw (lt-ltb b (blocks view.level4) (omega arith), e)
