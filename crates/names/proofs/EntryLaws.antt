-- When an entry may be met. Assumes nothing.
use mathlib.Core.Path.{◌≡◌, refl, sym, ap, ◌∙◌}
use mathlib.Core.Bool.{Bool, true, false, cond, ◌||◌, true≢false}
use mathlib.Core.List.{List}
use Prim.Native.Nat.{ℕ, suc, ◌+◌, ◌-◌, ◌*◌, ◌/◌, ◌^◌, ◌≤◌, ◌<◌}
use native.Mathlib.Omega.{arith}
use native.Mathlib.Nat.{mul-le-mul_left, mul-suc}
use lib.Dec.{leb, ltb}
use borrow.Author.Tests.{leb-false, lt-ltb, le-ltb}
use Rattle.std.specs.Prelude.{Ok, Err}
use Rattle.names.specs.declared.EntryError.TheVariants as entry
use Rattle.names.specs.declared.Table.{Table}
use Rattle.ivfc.specs.Verified.{first_not}
use Rattle.names.specs.Entries.{verified, lowest, read_at, admit, place}

pub read_yes : (stands : List Bool) (log at n b : ℕ) → b ≡ first_not (verified stands) (at / 2 ^ log) (suc ((at + n - 1) / 2 ^ log) - at / 2 ^ log)
    → (at + n - 1) / 2 ^ log < b → Ok at ≡ read_at stands log at n
unfolding read_at lowest
read_yes stands log at n b e l =
    sym (ap (λ (t : Bool). cond t (Ok at) (Err (entry.Unverified (lowest stands log at n)))) (lt-ltb ((at + n - 1) / 2 ^ log) (lowest stands log at n) (rw e at l)))

pub read_no : (stands : List Bool) (log at n b : ℕ) → b ≡ first_not (verified stands) (at / 2 ^ log) (suc ((at + n - 1) / 2 ^ log) - at / 2 ^ log)
    → b ≤ (at + n - 1) / 2 ^ log → Err (entry.Unverified b) ≡ read_at stands log at n
unfolding read_at lowest
read_no stands log at n b e l =
    ap (λ (x : ℕ). Err (entry.Unverified x)) e
    ∙ sym (ap (λ (t : Bool). cond t (Ok at) (Err (entry.Unverified (lowest stands log at n)))) (le-ltb ((at + n - 1) / 2 ^ log) (lowest stands log at n) (rw e at l)))

-- an entry below the maximum ends by the table's end
pub place_ends : (t : Table) (e : ℕ) → e < t.max → place t e + t.size ≤ t.place + t.size * t.max
unfolding place
place_ends t e l = omega (arith, mul-le-mul_left {m = suc e} {n = t.max} t.size l, mul-suc t.size e)

pub admit_no : (stands : List Bool) (log : ℕ) (t : Table) (again : Bool) (e : ℕ) → (again || (leb t.count e || leb t.max e)) ≡ true
    → Err entry.Invalid ≡ admit stands log t again e
unfolding admit
admit_no stands log t again e h = sym (ap (λ (x : Bool). cond x (Err entry.Invalid) (read_at stands log (place t e) t.size)) h)

pub admit_read : (stands : List Bool) (log : ℕ) (t : Table) (again : Bool) (e : ℕ) → (again || (leb t.count e || leb t.max e)) ≡ false
    → read_at stands log (place t e) t.size ≡ admit stands log t again e
unfolding admit
admit_read stands log t again e h = sym (ap (λ (x : Bool). cond x (Err entry.Invalid) (read_at stands log (place t e) t.size)) h)

-- what is refused by none of the three tests is below the maximum
pub tests_passed : (again : Bool) (count max e : ℕ) → (again || (leb count e || leb max e)) ≡ false → (again ≡ false) × (e < max)
tests_passed true count max e h = absurd (true≢false h)
tests_passed false count max e h = (refl, go (leb count e) h)
  where
    go : (b : Bool) → (b || leb max e) ≡ false → e < max
    go true h = absurd (true≢false h)
    go false h = leb-false max e h

-- an entry that is met was not met before, is in the table, and is read at its place
pub admit_at : (stands : List Bool) (log : ℕ) (t : Table) (again : Bool) (e at : ℕ) → admit stands log t again e ≡ Ok at
    → (again ≡ false) × (e < t.max) × (at ≡ place t e)
unfolding admit read_at
admit_at stands log t again e at h = go (again || (leb t.count e || leb t.max e)) refl h
  where
    here : (b : Bool) → cond b (Ok (place t e)) (Err (entry.Unverified (lowest stands log (place t e) t.size))) ≡ Ok at → at ≡ place t e
    here true h = cc
    here false h = let z : ◌≡◌ {A = ℕ} 0 1 = cc in absurd (omega arith)

    go : (b : Bool) → (again || (leb t.count e || leb t.max e)) ≡ b → cond b (Err entry.Invalid) (read_at stands log (place t e) t.size) ≡ Ok at
        → (again ≡ false) × (e < t.max) × (at ≡ place t e)
    go true q h = let z : ◌≡◌ {A = ℕ} 0 1 = cc in absurd (omega arith)
    go false q h =
        ((tests_passed again t.count t.max e q).0, (tests_passed again t.count t.max e q).1, here (ltb ((place t e + t.size - 1) / 2 ^ log) (lowest stands log (place t e) t.size)) h)

-- what is read is at the place asked for
pub read_place : (stands : List Bool) (log at n p : ℕ) → read_at stands log at n ≡ Ok p → p ≡ at
unfolding read_at
read_place stands log at n p h = go (ltb ((at + n - 1) / 2 ^ log) (lowest stands log at n)) h
  where
    go : (b : Bool) → cond b (Ok at) (Err (entry.Unverified (lowest stands log at n))) ≡ Ok p → p ≡ at
    go true h = cc
    go false h = let z : ◌≡◌ {A = ℕ} 0 1 = cc in absurd (omega arith)
