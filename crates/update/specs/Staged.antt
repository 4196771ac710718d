-- A write to the staged view of an image.
use Rattle.std.specs.Prelude.{List, [], ◌∷◌, Bool, false, ◌&&◌, cond, ℕ, zero, suc, ◌+◌, length, eqb}
use Rattle.std.proofs.lemmas.List.Edits.{sets}
use Rattle.number.specs.Blocks.{block_of, last_block}
use Rattle.dpfs.specs.Staging as dpfs
use Rattle.ivfc.specs.declared.View.{View}
use Rattle.ivfc.specs.Views.{level_of, content_of}
use Rattle.update.specs.Writing.{rehashed, written, zero_held}

-- level i stands outside DPFS level 3, at its own place of the image: an external level 4
unfoldable pub outer : View → (i : ℕ) → Bool
outer view i = eqb i 4 && view.external

-- bytes put into a level of the view: into the master hash at its place of the inactive table, into an external level 4 in place, else into the
-- staged DPFS level 3
unfoldable pub put_level : View → (i x : ℕ) → List ℕ → List ℕ → List ℕ
put_level view zero x values image = sets image (view.master.offset + x) values
put_level view (suc i) x values image =
    cond (outer view (suc i)) (sets image (view.outside + x) values)
    (dpfs.put view.tree ((level_of view (suc i)).offset + x) values image)

-- the image after bytes are written to level 4 of the view from x on
unfoldable pub written_to : View → (x : ℕ) → List ℕ → List ℕ → List ℕ
written_to view x values image = written (level_of view) (content_of view) (put_level view) 4 x values image

-- where no hash block is rebuilt this is: the bytes put, and the entries above them brought up to date
unfoldable pub plainly_written : View → (x : ℕ) → List ℕ → List ℕ → List ℕ
plainly_written view x values image =
    rehashed (level_of view) (content_of view) (put_level view) 4 (block_of view.level4 x) (last_block view.level4 x (length values))
    (put_level view 4 x values image)

-- an image that holds these bytes, written to level 4 of the view from x on, holds a digest of theirs that is all zero: of a written block or
-- of a hash block above one
unfoldable pub holds_zero : View → (x : ℕ) → List ℕ → List ℕ → Bool
holds_zero view x [] image = false
holds_zero view x (value ∷ values) image =
    zero_held (level_of view) (content_of view image) 4 (block_of view.level4 x) (last_block view.level4 x (length (value ∷ values)))
