-- A block as the code puts it together. Assumes nothing.
use mathlib.Core.Path.{◌≡◌, refl, sym, ap, ◌∙◌}
use mathlib.Core.List.{List, [], ◌∷◌, ◌++◌}
use Prim.Native.Nat.{ℕ, ◌+◌, ◌≤◌}
use native.Mathlib.Omega.{arith}
use lib.ListN.{length, replicate, length-append, length-replicate}
use lib.Seq.{sets}
use Rattle.number.specs.Fields.{field_bytes}
use Rattle.number.proofs.ListLaws.{sets_append, sets_two}
use Rattle.signing.specs.declared.Signer.{Signer}
use Rattle.signing.specs.declared.Signer.TheVariants.{Card, Title, System, Extdata, Database}
use Rattle.signing.specs.declared.ExtdataFile.TheVariants.{Quota, Device}
use Rattle.signing.specs.declared.Shape.{Shape}
use Rattle.signing.specs.Blocks.{laid_out, block, letters, fields, inner_block, tail_of, signing_block}
use Rattle.signing.specs.Rules.{ShapeOf, somes}

-- the inner block in its array
pub inner_made : (header first second : List ℕ) → length header ≡ 256
    → first ≡ sets (replicate 264 0) 0 (0x43 ∷ 0x54 ∷ 0x52 ∷ 0x2D ∷ 0x53 ∷ 0x41 ∷ 0x56 ∷ 0x30 ∷ []) → second ≡ sets first 8 header → second ≡ inner_block header
unfolding inner_block
inner_made header first second n e f =
    f ∙ ap (λ (s : List ℕ). sets s 8 header) e ∙ sets_two (replicate 264 0) 8 (0x43 ∷ 0x54 ∷ 0x52 ∷ 0x2D ∷ 0x53 ∷ 0x41 ∷ 0x56 ∷ 0x30 ∷ []) header refl (omega (arith, n, length-replicate {A = ℕ} 264 0))

-- ---- the parts' lengths

letters_length : (signer : Signer) → length (letters signer) ≡ 8
letters_length Card = refl
letters_length (Title id) = refl
letters_length (System id) = refl
letters_length (Extdata id file) = refl
letters_length (Database id) = refl

fields_length : (signer : Signer) → length (laid_out (fields signer)) ≤ 20
unfolding laid_out field_bytes
fields_length Card = omega arith
fields_length (Title id) = omega arith
fields_length (System id) = omega arith
fields_length (Extdata id Quota) = omega arith
fields_length (Extdata id (Device file folder)) = omega arith
fields_length (Database id) = omega arith

-- ---- the block in its array: letters, fields, tail

module _ (signer : Signer) (shape : Shape) (s : ShapeOf signer shape) where
  pub shape_letters : length shape.letters ≡ 8
  shape_letters = ap length s.letters ∙ letters_length signer

  pub shape_fields : length (laid_out (somes shape.fields)) ≤ 20
  shape_fields = rw s.fields (fields_length signer)

  module _ (zeros header first second third : List ℕ) (at end : ℕ) (a : first ≡ sets zeros 0 shape.letters) (b : second ≡ sets first 8 (laid_out (somes shape.fields)))
      (n : at ≡ 8 + length (laid_out (somes shape.fields))) (c : third ≡ sets second at (tail_of shape.hashed header))
      (m : end ≡ at + length (tail_of shape.hashed header)) where
    made_of : signing_block signer header ≡ (shape.letters ++ laid_out (somes shape.fields)) ++ tail_of shape.hashed header
    unfolding signing_block block
    made_of = rw (s.letters, s.fields, s.hashed) refl

    front : length (shape.letters ++ laid_out (somes shape.fields)) ≡ at
    front = length-append shape.letters (laid_out (somes shape.fields)) ∙ omega (arith, shape_letters, n)

    pub block_made : third ≡ sets zeros 0 (signing_block signer header)
    block_made =
        c ∙ ap (λ (l : List ℕ). sets l at (tail_of shape.hashed header))
        (b ∙ ap (λ (l : List ℕ). sets l 8 (laid_out (somes shape.fields))) a
        ∙ sets_append zeros 0 8 shape.letters (laid_out (somes shape.fields)) (omega (arith, shape_letters)))
        ∙ sets_append zeros 0 at (shape.letters ++ laid_out (somes shape.fields)) (tail_of shape.hashed header) (omega (arith, front))
        ∙ ap (sets zeros 0) (sym made_of)

    pub block_ends : end ≡ length (signing_block signer header)
    block_ends =
        m ∙ ap (λ (k : ℕ). k + length (tail_of shape.hashed header)) (sym front)
        ∙ sym (length-append (shape.letters ++ laid_out (somes shape.fields)) (tail_of shape.hashed header)) ∙ ap length (sym made_of)
