-- What an accepted outcome of a write says, and that the rules which a write asks for are met, an external level 4 included. Assumes nothing.
use Rattle.std.specs.Prelude.{Result, Ok, Err}
use mathlib.Core.Path.{◌≡◌, refl}
use mathlib.Core.List.{List}
use mathlib.Core.Bool.{Bool, true, false, ◌||◌, cond, true≢false}
use Prim.Native.Nat.{ℕ, ◌+◌, ◌≤◌, ◌<◌}
use native.Mathlib.Omega.{arith}
use lib.ListN.{length}
use lib.Dec.{leb, ltb}
use borrow.Author.Tests.{leb-true, ltb-false}
use Rattle.number.specs.Blocks.{block_of, last_block, touches}
use Rattle.number.proofs.BlockLaws.{touches_is}
use Rattle.layout.specs.declared.Container.{Container}
use Rattle.layout.specs.declared.Refusal.{Refusal}
use Rattle.layout.specs.declared.Refusal.TheVariants.{OutOfRange, Unverified}
use Rattle.layout.specs.Opening.{opened}
use Rattle.ivfc.specs.declared.View.{View}
use Rattle.ivfc.specs.Verified.{first_not}
use Rattle.ivfc.specs.Views.{verified}
use Rattle.ivfc.proofs.LowestLaws.{first_lowest, lowest_past}
use Rattle.update.specs.Covering.{covered}
use Rattle.update.specs.Rules.{WriteRules}
use Rattle.views.specs.Places.{partitions, staged_view, space_of}
use Rattle.steps.specs.Reading.{touched, refuse_lowest, refuse_outside}
use Rattle.steps.specs.Sessions.{ends_outcome, write_outcome}
use Rattle.steps.proofs.ReadLaws.{touched_some}

-- ---- what an accepted outcome says

refused : {r : Refusal} → ◌≡◌ {A = Result (Unit {0}) Refusal} (Err r) (Ok tt) → ⊥
refused e = let z : ◌≡◌ {A = ℕ} 0 1 = cc in omega arith

pub inside_accepted : (view : View) (place n : ℕ) (next : Result (Unit {0}) Refusal) → refuse_outside view place n next ≡ Ok tt
    → (place + n ≤ view.level4.size) × (next ≡ Ok tt)
unfolding refuse_outside
inside_accepted view place n next e = go (leb (place + n) view.level4.size) refl e
  where
    go : (t : Bool) → leb (place + n) view.level4.size ≡ t → cond t next (Err OutOfRange) ≡ Ok tt
        → (place + n ≤ view.level4.size) × (next ≡ Ok tt)
    go true p e = (leb-true _ _ p, e)
    go false p e = absurd (refused e)

-- every touched block keeps to what the check asks
pub lowest_accepted : (P : ℕ → Bool) (view : View) (place n : ℕ) → refuse_lowest P view place n ≡ Ok tt
    → (b : ℕ) → touches view.level4 place n b ≡ true → P b ≡ true
unfolding refuse_lowest
lowest_accepted P view place n e =
    go (ltb (first_not P (block_of view.level4 place) (touched view.level4 place n)) (block_of view.level4 place + touched view.level4 place n)) refl e
  where
    go : (t : Bool)
        → ltb (first_not P (block_of view.level4 place) (touched view.level4 place n)) (block_of view.level4 place + touched view.level4 place n) ≡ t
        → ◌≡◌ {A = Result (Unit {0}) Refusal}
        (cond t (Err (Unverified (first_not P (block_of view.level4 place) (touched view.level4 place n)))) (Ok tt)) (Ok tt)
        → (b : ℕ) → touches view.level4 place n b ≡ true → P b ≡ true
    go true p e = absurd (refused e)
    go false p e = λ b h. holds b (touches_is view.level4 place n b h)
      where
        holds : (b : ℕ) → (0 < n) × (block_of view.level4 place ≤ b) × (b ≤ last_block view.level4 place n) → P b ≡ true
        holds b (h, f, k) =
            let some = touched_some view.level4 place n h in
            let past = rw some at (ltb-false (first_not P (block_of view.level4 place) (touched view.level4 place n))
            (block_of view.level4 place + touched view.level4 place n) p) in
            lowest_past P (block_of view.level4 place) (last_block view.level4 place n) _
            (first_lowest P (block_of view.level4 place) (last_block view.level4 place n) (omega arith)) (omega arith) b f k

-- an accepted write lies in level 4, and each block that it touches is covered in full or verified
pub write_accepted : (view : View) (image : List ℕ) (place n : ℕ) → write_outcome view image place n ≡ Ok tt
    → (place + n ≤ view.level4.size)
    × ((b : ℕ) → touches view.level4 place n b ≡ true → (covered view.level4 place n b || verified view image 4 b) ≡ true)
unfolding write_outcome ends_outcome
write_accepted view image place n e =
    let inner = inside_accepted view place n _ e in
    (inner.0, lowest_accepted (λ (b : ℕ). covered view.level4 place n b || verified view image 4 b) view place n inner.1)

-- ---- the rules that a write asks for are met

right : (a b : Bool) → a ≡ false → a || b ≡ true → b ≡ true
right true b p e = absurd (true≢false p)
right false b p e = e

pub write_rules : (image : List ℕ) (c : Container) → opened image ≡ Ok c → (q : ℕ) → q < partitions c → (place : ℕ) (bytes : List ℕ)
    → write_outcome (staged_view c q) image place (length bytes) ≡ Ok tt → WriteRules (space_of c) (staged_view c q) image place bytes
write_rules image c o q k place bytes accepted = record {
  own = record {
    places = record { container = c; opens = o; same = refl };
    seen = record { container = c; partition = q; there = k; opens = o; same = refl };
  };
  fits = (write_accepted (staged_view c q) image place (length bytes) accepted).0;
  judged = λ b t n. right (covered (staged_view c q).level4 place (length bytes) b) _ n ((write_accepted (staged_view c q) image place (length bytes) accepted).1 b t);
}
