-- Tests: what a Bool-valued test says, and tests that say the same. Assumes nothing.
use Prim.Native.Nat.{ℕ, ◌≤◌, ◌<◌}
use mathlib.Core.Bool.{Bool, true, false, not, ◌&&◌, ◌||◌, true≢false}
use mathlib.Core.Path.{◌≡◌, refl, sym, ◌∙◌}
use lib.Dec.{leb}
use borrow.Author.Tests.{leb-true, leb-false, le-leb, lt-leb, not-true, not-false}
use native.Mathlib.Nat.{not-le_of_lt}

-- two orders that imply each other have one test
pub leb_same : (a b c d : ℕ) → (a ≤ b → c ≤ d) → (c ≤ d → a ≤ b) → leb a b ≡ leb c d
leb_same a b c d f g = go (leb c d) refl
  where
    go : (t : Bool) → leb c d ≡ t → leb a b ≡ leb c d
    go true e = le-leb a b (g (leb-true c d e)) ∙ sym e
    go false e = lt-leb a b (lt (leb-false c d e)) ∙ sym e
      where
        lt : d < c → b < a
        lt h = leb-false a b (no (leb a b) refl)
          where
            no : (t : Bool) → leb a b ≡ t → leb a b ≡ false
            no true q = absurd (not-le_of_lt h (f (leb-true a b q)))
            no false q = q

-- what a call's answer r, which is the test b, tells of b in the two arms of `if !r`
pub failed : {r b : Bool} → r ≡ b → not r ≡ true → b ≡ false
failed p q = sym p ∙ not-true _ q

pub passed : {r b : Bool} → r ≡ b → not r ≡ false → b ≡ true
passed p q = sym p ∙ not-false _ q

-- a disjunction of which a part holds, and the parts of one that fails
pub or_left : (a b : Bool) → a ≡ true → a || b ≡ true
or_left true b e = refl
or_left false b e = absurd (true≢false (sym e))

pub or_right : (a b : Bool) → b ≡ true → a || b ≡ true
or_right true b e = refl
or_right false b e = e

pub or_left_false : (a b : Bool) → a || b ≡ false → a ≡ false
or_left_false true b e = e
or_left_false false b e = refl

pub or_right_false : (a b : Bool) → a || b ≡ false → b ≡ false
or_right_false true b e = absurd (true≢false e)
or_right_false false b e = e

-- the parts of a conjunction, and one that fails
pub and_left : (a b : Bool) → a && b ≡ true → a ≡ true
and_left true b e = refl
and_left false b e = e

pub and_right : (a b : Bool) → a && b ≡ true → b ≡ true
and_right true b e = e
and_right false b e = cc

pub and_both : (a b : Bool) → a ≡ true → b ≡ true → a && b ≡ true
and_both a b p q = rw (p, q)

pub left_fails : (a b : Bool) → a ≡ false → a && b ≡ false
left_fails a b e = rw e

pub right_fails : (a b : Bool) → b ≡ false → a && b ≡ false
right_fails true b e = e
right_fails false b e = refl
