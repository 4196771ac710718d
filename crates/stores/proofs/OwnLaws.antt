-- The space of an image that opens keeps to the rules, and it stays the image's own while free bytes alone change. Assumes nothing.
use mathlib.Core.Path.{sym, subst}
use mathlib.Core.List.{List}
use Prim.Native.Nat.{ℕ, ◌≤◌}
use lib.ListN.{length}
use Rattle.number.specs.Frame.{Keeps}
use Rattle.layout.proofs.GuaranteeLaws.{guarantees}
use Rattle.dpfs.specs.declared.Tree.{Tree}
use Rattle.dpfs.specs.declared.Space.{Space}
use Rattle.dpfs.specs.Free.{Free}
use Rattle.dpfs.specs.Rules.{WellPlaced, SpaceRules, Among}
use Rattle.dpfs.proofs.SpaceLaws.{among_placed}
use Rattle.views.proofs.PlaceLaws.{space_rules}
use Rattle.views.proofs.OpenLaws.{free_opens}
use Rattle.stores.specs.Rules.{OwnSpace}

module _ (space : Space) (image : List ℕ) (h : OwnSpace space image) where
  pub own_rules : SpaceRules space (length image)
  own_rules =
      subst (λ (s : Space). SpaceRules s (length image)) (sym h.same)
      (space_rules image h.container (guarantees image h.container h.opens))

  pub own_limit : length image ≤ 0x4000000
  own_limit = own_rules.a.limit

  -- each of its trees
  pub own_placed : (tree : Tree) → Among tree space → WellPlaced tree (length image)
  own_placed tree m = among_placed space (length image) own_rules tree m

  -- the frame
  pub own_kept : (after : List ℕ) → Keeps (Free space image) image after → OwnSpace space after
  own_kept after k = record {
    container = h.container;
    opens = free_opens image after h.container h.opens (subst (λ (s : Space). Keeps (Free s image) image after) h.same k);
    same = h.same;
  }
