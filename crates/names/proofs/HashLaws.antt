-- The bucket hash's rounds, and one entry of a chain, as the code has them. Assumes nothing.
use mathlib.Core.Path.{◌≡◌, refl, sym, ap, ap₂, ◌∙◌}
use mathlib.Core.Bool.{Bool, false, cond, ◌&&◌}
use mathlib.Core.List.{List}
use Prim.Native.Nat.{ℕ, suc, ◌+◌, ◌*◌}
use lib.Dec.{eqb}
use lib.ListN.{get_or}
use borrow.Author.Tests.{eq-eqb, ne_eqb}
use Rattle.std.specs.Prelude.{Result, Ok, Some, None}
use Rattle.names.specs.declared.EntryError.{EntryError}
use Rattle.number.specs.Fields.{le32}
use Rattle.number.specs.Bytes.{bytes, same_bytes}
use Rattle.names.specs.declared.Save.{Save}
use Rattle.names.specs.Entries.{admit, read_at, place}
use Rattle.names.specs.Searching.{goes, ends, round, rounds, bucket, named, next_in_bucket, linked, link_at, chain_at, found}

pub rounds_none : (g : ℕ) (n : List ℕ) → g ≡ rounds g n 0
unfolding rounds
rounds_none g n = refl

pub round_is : (g h : ℕ) (n : List ℕ) (i a b c d r : ℕ) → h ≡ rounds g n i → a ≡ get_or n (4 * i) 0 → b ≡ get_or n (4 * i + 1) 0 → c ≡ get_or n (4 * i + 2) 0
    → d ≡ get_or n (4 * i + 3) 0 → r ≡ round h a b c d → r ≡ rounds g n (suc i)
unfolding rounds
round_is g h n i a b c d r e p q s t u = cc

-- the entry at its place, as the code compares it
pub named_is : (s : Save) (level4 : List ℕ) (parent : ℕ) (wanted own : List ℕ) (f at field : ℕ) (same : Bool) → at ≡ place s.files f
    → field ≡ le32 level4 at → own ≡ bytes (λ (y : ℕ). get_or level4 y 0) (at + 4) 16 → same ≡ same_bytes own wanted → (eqb field parent && same) ≡ named s level4 parent wanted f
unfolding named
named_is s level4 parent wanted own f at field same p e o b =
    ap₂ (λ (x : ℕ) (t : Bool). eqb x parent && t) (e ∙ ap (le32 level4) p)
    (b ∙ ap (λ (l : List ℕ). same_bytes l wanted) (o ∙ ap (λ (x : ℕ). bytes (λ (y : ℕ). get_or level4 y 0) (x + 4) 16) p))

module _ (s : Save) (level4 : List ℕ) (stands : List Bool) (parent : ℕ) (wanted : List ℕ) (f : ℕ) where
  pub link_zero : f ≡ 0 → ends (Ok None) ≡ link_at s level4 stands parent wanted false f
  unfolding link_at
  link_zero e = sym (ap (λ (b : Bool). cond b (ends (Ok None)) (linked s level4 stands parent wanted (admit stands s.log s.files false f) f)) (eq-eqb f 0 e))

  pub link_is : (f ≡ 0 → ⊥) → (a : Result ℕ EntryError) → admit stands s.log s.files false f ≡ a → linked s level4 stands parent wanted a f ≡ link_at s level4 stands parent wanted false f
  unfolding link_at
  link_is z a e =
      sym (ap (λ (b : Bool). cond b (ends (Ok None)) (linked s level4 stands parent wanted (admit stands s.log s.files false f) f)) (ne_eqb f 0 z)
      ∙ ap (λ (r : Result ℕ EntryError). linked s level4 stands parent wanted r f) e)

  pub link_named : (t : Bool) → named s level4 parent wanted f ≡ t
      → cond t (ends (Ok (Some f))) (goes (next_in_bucket s level4 f)) ≡ cond (named s level4 parent wanted f) (ends (Ok (Some f))) (goes (next_in_bucket s level4 f))
  link_named t e = sym (ap (λ (b : Bool). cond b (ends (Ok (Some f))) (goes (next_in_bucket s level4 f))) e)

pub found_is : (s : Save) (level4 : List ℕ) (stands : List Bool) (parent : ℕ) (wanted : List ℕ) (b : ℕ) (r a : Result ℕ EntryError) → b ≡ bucket wanted parent s.buckets
    → r ≡ read_at stands s.log (s.hash + 4 * b) 4 → r ≡ a → chain_at s level4 stands parent wanted a ≡ found s level4 stands parent wanted
unfolding found
found_is s level4 stands parent wanted b r a e h q =
    ap (chain_at s level4 stands parent wanted) (sym q ∙ h ∙ ap (λ (x : ℕ). read_at stands s.log (s.hash + 4 * x) 4) e)
