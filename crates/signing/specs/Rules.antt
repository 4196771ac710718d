-- What the machinery of this crate gives.
use Rattle.std.specs.Prelude.{◌≡◌, List, [], ◌∷◌, Option, Some, None}
use Rattle.signing.specs.declared.Field.{Field}
use Rattle.signing.specs.declared.Signer.{Signer}
use Rattle.signing.specs.declared.Shape.{Shape}
use Rattle.signing.specs.Blocks.{letters, fields, hashed}

-- the fields that there are
abbrev pub somes : List (Option Field) → List Field
somes [] = []
somes (None ∷ rest) = somes rest
somes (Some field ∷ rest) = field ∷ somes rest

-- a shape is a signer's line of the table
pub record ShapeOf (signer : Signer) (shape : Shape) : Type 0 where
  pub letters : shape.letters ≡ letters signer
  pub fields : somes shape.fields ≡ fields signer
  pub hashed : shape.hashed ≡ hashed signer
