-- Meeting one entry, as the code does it. Assumes nothing.
use mathlib.Core.Path.{◌≡◌, refl, sym, ap, ap₂, ◌∙◌, subst}
use mathlib.Core.Bool.{Bool, false, cond}
use mathlib.Core.List.{List, [], ◌∷◌, ◌++◌}
use Prim.Native.Nat.{ℕ, ◌+◌, ◌*◌, ◌/◌, ◌%◌, ◌<◌, ◌^◌}
use native.Mathlib.Omega.{arith}
use lib.Dec.{ltb}
use lib.ListN.{length, get_or}
use lib.Seq.{sets}
use borrow.Author.Tests.{lt-ltb}
use Rattle.std.specs.Prelude.{Result, Ok}
use Rattle.std.specs.Int.{w32, to_le_bytes}
use Rattle.names.specs.declared.EntryError.{EntryError}
use Rattle.number.specs.Fields.{field_bytes}
use Rattle.number.specs.Bytes.{bytes}
use Rattle.number.specs.Marks.{Marks}
use Rattle.number.proofs.ListLaws.{sets_append}
use Rattle.names.specs.declared.Table.{Table}
use Rattle.names.specs.Entries.{place}
use Rattle.names.specs.Records.{head, put_record}
use Rattle.names.specs.Walks.{met_by, leaves}

module _ (t : Table) (kind e n : ℕ) (level4 marks row marks' row' : List ℕ) where
  pub meets_at : (a : Result ℕ EntryError) (at : ℕ) → a ≡ Ok at → at ≡ place t e → Marks marks e marks'
      → row' ≡ put_record row n (head kind e ++ bytes (λ (y : ℕ). get_or level4 y 0) (at + 4) 16)
      → (Ok (n + 1) ≡ met_by a n) × leaves a t kind e n level4 marks row marks' row'
  meets_at a at h p m r = rw h (refl, (m, r ∙ ap (λ (x : ℕ). put_record row n (head kind e ++ bytes (λ (y : ℕ). get_or level4 y 0) (x + 4) 16)) p))

-- the row has no room for the record
pub record_none : (row : List ℕ) (i : ℕ) (r : List ℕ) → ltb i (length row / 24) ≡ false → row ≡ put_record row i r
unfolding put_record
record_none row i r h = sym (ap (λ (b : Bool). cond b (sets row (24 * i) r) row) h)

-- ---- the record is stored in three pieces

-- a word of four bytes holds a number's lowest 32 bits
pub word_bytes : (v : ℕ) → to_le_bytes w32 (v % 2 ^ 32) ≡ field_bytes 4 v
unfolding field_bytes
word_bytes v =
    let b0 : v % 2 ^ 32 % 0x100 ≡ v % 0x100 = omega arith in
    let b1 : v % 2 ^ 32 / 0x100 % 0x100 ≡ v / 0x100 % 0x100 = omega arith in
    let b2 : v % 2 ^ 32 / 0x10000 % 0x100 ≡ v / 0x100 / 0x100 % 0x100 = omega arith in
    let b3 : v % 2 ^ 32 / 0x1000000 % 0x100 ≡ v / 0x100 / 0x100 / 0x100 % 0x100 = omega arith in
    λ i. b0 i ∷ b1 i ∷ b2 i ∷ b3 i ∷ []

pub small_bytes : (v : ℕ) → v < 2 ^ 32 → to_le_bytes w32 v ≡ field_bytes 4 v
small_bytes v h = let e : v % 2 ^ 32 ≡ v = omega arith in subst (λ (x : ℕ). to_le_bytes w32 x ≡ field_bytes 4 v) e (word_bytes v)

pub record_put : (row first middle after : List ℕ) (i kind e : ℕ) (k n name : List ℕ) → i < length row / 24 → k ≡ field_bytes 4 kind → n ≡ field_bytes 4 e
    → first ≡ sets row (24 * i) k → middle ≡ sets first (24 * i + 4) n → after ≡ sets middle (24 * i + 8) name → after ≡ put_record row i (head kind e ++ name)
unfolding put_record field_bytes
record_put row first middle after i kind e k n name l p q f m a =
    a ∙ ap (λ (x : List ℕ). sets x (24 * i + 8) name)
    (m ∙ ap₂ (λ (x y : List ℕ). sets x (24 * i + 4) y) (f ∙ ap (sets row (24 * i)) p) q ∙ sets_append row (24 * i) (24 * i + 4) (field_bytes 4 kind) (field_bytes 4 e) refl)
    ∙ sets_append row (24 * i) (24 * i + 8) (head kind e) name refl
    ∙ sym (ap (λ (b : Bool). cond b (sets row (24 * i) (head kind e ++ name)) row) (lt-ltb i (length row / 24) l))
