-- What a listing leaves in the row: each name's record at its place while there is room, and every other byte as it was. Assumes nothing.
use mathlib.Core.Path.{◌≡◌, refl, ap, ◌∙◌}
use mathlib.Core.Bool.{Bool, true, false, cond}
use mathlib.Core.Logic.{inl, inr}
use mathlib.Core.List.{List, [], ◌∷◌}
use Prim.Native.Nat.{ℕ, suc, ◌+◌, ◌*◌, ◌/◌, ◌≤◌, ◌<◌}
use native.Mathlib.Omega.{arith}
use lib.Dec.{ltb}
use lib.ListN.{length, get_or}
use lib.Seq.{sets, length-sets}
use borrow.Author.Tests.{lt-ltb}
use Rattle.number.specs.Fields.{field_bytes}
use Rattle.number.specs.Bytes.{Outside}
use Rattle.number.proofs.ListLaws.{length_bytes, sets_out, sets_in}
use Rattle.names.specs.declared.Save.{Save}
use Rattle.names.specs.Listing.{Entry, folder, file}
use Rattle.names.specs.Records.{entry_record, put_record, laid}

entry_length : (s : Save) (level4 : List ℕ) (e : Entry) → length (entry_record s level4 e) ≡ 24
unfolding entry_record field_bytes
entry_length s level4 (folder e) = ap (λ (n : ℕ). suc (suc (suc (suc (suc (suc (suc (suc n)))))))) (length_bytes _ _ 16)
entry_length s level4 (file f) = ap (λ (n : ℕ). suc (suc (suc (suc (suc (suc (suc (suc n)))))))) (length_bytes _ _ 16)

put_out : (row : List ℕ) (i : ℕ) (r : List ℕ) (y : ℕ) → Outside (24 * i) (length r) y → get_or (put_record row i r) y 0 ≡ get_or row y 0
unfolding put_record
put_out row i r y o = go (ltb i (length row / 24))
  where
    go : (b : Bool) → get_or (cond b (sets row (24 * i) r) row) y 0 ≡ get_or row y 0
    go true = sets_out row (24 * i) r y o
    go false = refl

put_length : (row : List ℕ) (i : ℕ) (r : List ℕ) → length (put_record row i r) ≡ length row
unfolding put_record
put_length row i r = go (ltb i (length row / 24))
  where
    go : (b : Bool) → length (cond b (sets row (24 * i) r) row) ≡ length row
    go true = length-sets row (24 * i) r
    go false = refl

module _ (s : Save) (level4 row : List ℕ) where
  pub laid_length : (met : List Entry) → length (laid s level4 row met) ≡ length row
  unfolding laid
  laid_length [] = refl
  laid_length (e ∷ met) = put_length (laid s level4 row met) (length met) (entry_record s level4 e) ∙ laid_length met

  -- a later name leaves the records before it
  pub laid_keeps : (e : Entry) (met : List Entry) (y : ℕ) → y < 24 * length met → get_or (laid s level4 row (e ∷ met)) y 0 ≡ get_or (laid s level4 row met) y 0
  unfolding laid
  laid_keeps e met y l = put_out (laid s level4 row met) (length met) (entry_record s level4 e) y (inl l)

  -- the record of a name that there is room for
  pub laid_record : (e : Entry) (met : List Entry) (k : ℕ) → length met < length row / 24 → k < 24
      → get_or (laid s level4 row (e ∷ met)) (24 * length met + k) 0 ≡ get_or (entry_record s level4 e) k 0
  unfolding laid put_record
  laid_record e met k l o =
      ap (λ (b : Bool). get_or (cond b (sets (laid s level4 row met) (24 * length met) (entry_record s level4 e)) (laid s level4 row met)) (24 * length met + k) 0)
      (lt-ltb (length met) (length (laid s level4 row met) / 24) (omega (arith, laid_length met)))
      ∙ sets_in (laid s level4 row met) (24 * length met) (entry_record s level4 e) k (omega (arith, laid_length met, entry_length s level4 e)) (omega (arith, entry_length s level4 e))

  -- past the last name nothing is touched
  pub laid_past : (met : List Entry) (y : ℕ) → 24 * length met ≤ y → get_or (laid s level4 row met) y 0 ≡ get_or row y 0
  unfolding laid
  laid_past [] y l = refl
  laid_past (e ∷ met) y l =
      put_out (laid s level4 row met) (length met) (entry_record s level4 e) y (inr (omega (arith, entry_length s level4 e))) ∙ laid_past met y (omega arith)
