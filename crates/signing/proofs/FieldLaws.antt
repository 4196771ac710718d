-- Fields one after the other: their bytes, how many, and where each stands. Assumes nothing.
use mathlib.Core.Path.{◌≡◌, refl, sym, ap, ◌∙◌}
use mathlib.Core.List.{List, [], ◌∷◌, ◌++◌, append_assoc}
use mathlib.Core.Logic.{inl, inr}
use Rattle.std.specs.Prelude.{Option, Some, None}
use Prim.Native.Nat.{ℕ, zero, suc, ◌+◌, ◌-◌, ◌*◌, ◌/◌, ◌%◌, ◌^◌, ◌≤◌, ◌<◌}
use native.Mathlib.Omega.{arith}
use native.Mathlib.Nat.{div-lt_iff_lt-mul, pow-suc}
use lib.ListN.{length, get_or, set, take, drop, length-append, drop_of_length-le, get_or-append}
use native.Mathlib.Numerals.{add-one}
use lib.Seq.{sets, drop_at, drop-cons, take_at, get_or-append-add}
use Rattle.number.specs.Fields.{field_bytes}
use Rattle.number.specs.Bytes.{Outside}
use Rattle.number.specs.Ranges.{part}
use Rattle.number.proofs.ListLaws.{sets_append}
use Rattle.signing.specs.declared.Field.{Field}
use Rattle.signing.specs.Blocks.{laid_out, block, field}
use Rattle.signing.specs.Rules.{somes}
use Rattle.signing.specs.Placing.{number_of, offset_of, Placing}

pub length_field : (size value : ℕ) → length (field_bytes size value) ≡ size
unfolding field_bytes
length_field zero value = refl
length_field (suc size) value = ap suc (length_field size (value / 0x100))

pub laid_append : (a b : List Field) → laid_out (a ++ b) ≡ laid_out a ++ laid_out b
unfolding laid_out
laid_append [] b = refl
laid_append (f ∷ a) b =
    ap (λ (l : List ℕ). field_bytes f.size f.value ++ l) (laid_append a b) ∙ sym (append_assoc (field_bytes f.size f.value) (laid_out a) (laid_out b))

-- ---- the number of a field's bytes

pub reads_back : (size value : ℕ) → value < 0x100 ^ size → number_of (field_bytes size value) ≡ value
unfolding field_bytes number_of
reads_back zero value h = omega arith
reads_back (suc size) value h =
    let k : value < 0x100 ^ size * 0x100 = rw (pow-suc 0x100 size) at h in
    let l : value / 0x100 < 0x100 ^ size = (div-lt_iff_lt-mul {k = 0x100} {x = value} {y = 0x100 ^ size} (omega arith)).1 k in
    let e : number_of (field_bytes size (value / 0x100)) ≡ value / 0x100 = reads_back size (value / 0x100) l in
    omega arith

-- ---- a field among others

middle : (P F G Q : List ℕ) (i : ℕ) → length F ≡ length G → Outside (length P) (length F) i → get_or (P ++ (F ++ Q)) i 0 ≡ get_or (P ++ (G ++ Q)) i 0
middle P F G Q i e (inl h) = get_or-append P (F ++ Q) 0 i h ∙ sym (get_or-append P (G ++ Q) 0 i h)
middle P F G Q i e (inr h) =
    let k : ℕ = i - (length P + length F) in
    let n : i ≡ length P + (length F + k) = omega arith in
    let m : i ≡ length P + (length G + k) = omega arith in
    ap (λ (j : ℕ). get_or (P ++ (F ++ Q)) j 0) n ∙ get_or-append-add P (F ++ Q) (length F + k) 0 ∙ get_or-append-add F Q k 0
    ∙ sym (ap (λ (j : ℕ). get_or (P ++ (G ++ Q)) j 0) m ∙ get_or-append-add P (G ++ Q) (length G + k) 0 ∙ get_or-append-add G Q k 0)

-- a block, cut at one of its fields
cut : (letters tail : List ℕ) (before after : List Field) (size value : ℕ)
    → block letters (before ++ field size value ∷ after) tail ≡ (letters ++ laid_out before) ++ (field_bytes size value ++ (laid_out after ++ tail))
unfolding block laid_out
cut letters tail before after size value =
    ap (λ (l : List ℕ). letters ++ l ++ tail) (laid_append before (field size value ∷ after))
    ∙ simp append_assoc

pub placing : Placing
unfolding part
placing = record {
  own = λ letters tail before after size value h.
      ap (λ (l : List ℕ). number_of (take size (drop (offset_of letters before) l))) (cut letters tail before after size value)
      ∙ ap (λ (l : List ℕ). number_of (take size l))
      (drop_at (letters ++ laid_out before) (field_bytes size value ++ (laid_out after ++ tail)) (offset_of letters before) (length-append letters (laid_out before)))
      ∙ ap number_of (take_at (field_bytes size value) (laid_out after ++ tail) size (length_field size value))
      ∙ reads_back size value h;
  others = λ letters tail before after size value other i h.
      ap (λ (l : List ℕ). get_or l i 0) (cut letters tail before after size value)
      ∙ middle (letters ++ laid_out before) (field_bytes size value) (field_bytes size other) (laid_out after ++ tail) i
      (length_field size value ∙ sym (length_field size other)) (rw (length-append letters (laid_out before), length_field size value) h)
      ∙ sym (ap (λ (l : List ℕ). get_or l i 0) (cut letters tail before after size other));
}

-- ---- as the code puts them

-- one byte more of a field
pub field_step : (s : List ℕ) (at size k rest : ℕ) → k < size
    → sets s (at + k) (field_bytes (size - k) rest) ≡ sets (set s (at + k) (rest % 0x100)) (at + (k + 1)) (field_bytes (size - (k + 1)) (rest / 0x100))
unfolding field_bytes
field_step s at size k rest h =
    let n : size - k ≡ suc (size - (k + 1)) = omega arith in
    let x : suc (at + k) ≡ at + (k + 1) = omega arith in
    ap (λ (j : ℕ). sets s (at + k) (field_bytes j rest)) n
    ∙ ap (λ (y : ℕ). sets (set s (at + k) (rest % 0x100)) y (field_bytes (size - (k + 1)) (rest / 0x100))) x

pub field_ends : (s : List ℕ) (at size k rest : ℕ) → size ≤ k → s ≡ sets s (at + k) (field_bytes (size - k) rest)
unfolding field_bytes
field_ends s at size k rest h =
    let n : size - k ≡ 0 = omega arith in
    ap (λ (j : ℕ). sets s (at + k) (field_bytes j rest)) (sym n)

-- what is left of the fields: one more, where there is one
module _ (fields : List (Option Field)) (k : ℕ) (h : k < length fields) where
  none_here : get_or fields k None ≡ None → somes (drop k fields) ≡ somes (drop (k + 1) fields)
  none_here e = rw (add-one k, drop-cons fields k None h, e) refl

  pub left_none : get_or fields k None ≡ None → laid_out (somes (drop (k + 1) fields)) ≡ laid_out (somes (drop k fields))
  left_none e = ap laid_out (sym (none_here e))

  module _ (f : Field) (e : get_or fields k None ≡ Some f) where
    laid_step : laid_out (somes (drop k fields)) ≡ field_bytes f.size f.value ++ laid_out (somes (drop (k + 1) fields))
    unfolding laid_out
    laid_step = rw (add-one k, drop-cons fields k None h, e) refl

    pub left_length : length (laid_out (somes (drop k fields))) ≡ f.size + length (laid_out (somes (drop (k + 1) fields)))
    left_length =
        ap length laid_step ∙ length-append (field_bytes f.size f.value) (laid_out (somes (drop (k + 1) fields)))
        ∙ ap (λ (n : ℕ). n + length (laid_out (somes (drop (k + 1) fields)))) (length_field f.size f.value)

    pub left_stored : (s after : List ℕ) (end : ℕ) → after ≡ sets s end (field_bytes f.size f.value)
        → sets after (end + f.size) (laid_out (somes (drop (k + 1) fields))) ≡ sets s end (laid_out (somes (drop k fields)))
    left_stored s after end e =
        ap (λ (t : List ℕ). sets t (end + f.size) (laid_out (somes (drop (k + 1) fields)))) e
        ∙ sets_append s end (end + f.size) (field_bytes f.size f.value) (laid_out (somes (drop (k + 1) fields))) (ap (λ (n : ℕ). end + n) (sym (length_field f.size f.value)))
        ∙ ap (sets s end) (sym laid_step)

-- all fields are stored
pub all_stored : (fields : List (Option Field)) (k : ℕ) → length fields ≤ k → laid_out (somes (drop k fields)) ≡ []
unfolding laid_out
all_stored fields k h = ap (λ (l : List (Option Field)). laid_out (somes l)) (drop_of_length-le fields h)
