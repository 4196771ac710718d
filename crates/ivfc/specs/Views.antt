-- A view of a partition: its places in the image, the half of level 1 that it goes by, and where its master hash stands. The committed
-- and the staged view are two values of one type.
use Rattle.std.specs.Prelude.{List, Bool, cond, ℕ, zero, suc, ◌+◌, get_or}
use Rattle.number.specs.declared.Level.{Level}
use Rattle.dpfs.specs.Tree as dpfs
use Rattle.ivfc.specs.declared.View.{View}
use Rattle.ivfc.specs.Verified as tree

-- level 0 is the master hash, of blocks of one entry; offsets of levels 1 to 4 count within DPFS level 3
unfoldable pub level_of : View → (i : ℕ) → Level
level_of view zero = record { offset = 0; size = view.master.size; log = 5 }
level_of view (suc zero) = view.level1
level_of view (suc (suc zero)) = view.level2
level_of view (suc (suc (suc zero))) = view.level3
level_of view (suc (suc (suc (suc i)))) = view.level4

-- byte y of a level that stands in DPFS level 3
unfoldable pub inner_byte : View → List ℕ → Level → (y : ℕ) → ℕ
inner_byte view image l y = dpfs.content view.tree image view.half (l.offset + y)

-- byte y of level i: of the master hash and of an external level 4 at its own place of the image, else inside DPFS level 3
unfoldable pub content_of : View → List ℕ → (i y : ℕ) → ℕ
content_of view image zero y = get_or image (view.master.offset + y) 0
content_of view image (suc zero) y = inner_byte view image view.level1 y
content_of view image (suc (suc zero)) y = inner_byte view image view.level2 y
content_of view image (suc (suc (suc zero))) y = inner_byte view image view.level3 y
content_of view image (suc (suc (suc (suc i)))) y =
    cond view.external (get_or image (view.outside + y) 0) (inner_byte view image view.level4 y)

-- block b of level i of the view is verified
abbrev pub verified : View → List ℕ → (i b : ℕ) → Bool
verified view image = tree.verified (level_of view) (content_of view image)

abbrev pub matches : View → List ℕ → (i b : ℕ) → Bool
matches view image = tree.matches (level_of view) (content_of view image)
