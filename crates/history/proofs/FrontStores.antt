-- Bytes laid over an image's front: what begin, write, commit and revert store does not meet them, so that it is the same to lay them before or after.
-- Assumes nothing.
use mathlib.Core.Path.{◌≡◌, refl, ap, ◌∙◌}
use mathlib.Core.Bool.{Bool, true, false, not, cond}
use mathlib.Core.List.{List, [], ◌∷◌}
use Prim.Native.Nat.{ℕ, zero, suc, ◌+◌, ◌*◌, ◌≤◌}
use native.Mathlib.Omega.{arith}
use lib.ListN.{length, set}
use lib.Seq.{sets}
use lib.Dec.{eqb}
use Rattle.number.specs.declared.Level.{Level}
use Rattle.number.specs.Blocks.{block_of, last_block}
use Rattle.number.specs.Bytes.{copied}
use Rattle.number.proofs.FrameLaws.{keeps_sets}
use Rattle.number.proofs.OrderLaws.{set_after, sets_after}
use Rattle.sha256.specs.Sha256.{sha256}
use Rattle.layout.specs.declared.Container.{Container}
use Rattle.layout.specs.Tables.{inactive}
use Rattle.layout.specs.Guarantees.{Guarantees}
use Rattle.dpfs.specs.declared.Tree.{Tree}
use Rattle.dpfs.specs.Bits.{bit_byte, bit_place, flip_bit, bit_of}
use Rattle.dpfs.specs.Free.{InRange}
use Rattle.dpfs.specs.Tree.{place, level_byte}
use Rattle.dpfs.specs.Staging as dpfs
use Rattle.ivfc.specs.declared.View.{View}
use Rattle.ivfc.specs.Blocks.{block}
use Rattle.ivfc.specs.Verified.{verified}
use Rattle.ivfc.specs.Views.{level_of, content_of}
use Rattle.update.specs.Writing.{emptied, cleared, entered, rehashed, written}
use Rattle.update.specs.Staged.{outer, put_level, written_to}
use Rattle.views.specs.Places.{partitions, tree_of}
use Rattle.views.proofs.PlaceLaws.{first_there, inactive_table}
use Rattle.steps.specs.Sessions.{for_each, staged_table, table_begun, begun_image}
use Rattle.history.specs.Model.{Plain}
use Rattle.history.specs.Fronts.{ignored}
use Rattle.history.proofs.Tables.{two_there}
use Rattle.history.proofs.Fronts.{Fronted, TreePast, Past, tree_past, past, front_level, front_select2, front_select3, front_seen, front_table}

-- what is done in either branch
pub cond_through : {A : Type 0} (f : A → A) (t : Bool) (a b : A) → cond t (f a) (f b) ≡ f (cond t a b)
cond_through f true a b = refl
cond_through f false a b = refl

-- ---- a write to a hash tree, over any store, and a change of it that neither its reads nor its puts meet

module _ (levels : ℕ → Level) {S : Type 0} (read : S → ℕ → ℕ → ℕ) (put : ℕ → ℕ → List ℕ → S → S) (change : S → S)
    (reads : (s : S) → read (change s) ≡ read s) (puts : (i x : ℕ) (values : List ℕ) (s : S) → put i x values (change s) ≡ change (put i x values s)) where
  emptied_changed : (stands : ℕ → Bool) (i p n : ℕ) (s : S) → emptied levels read put stands i p n (change s) ≡ change (emptied levels read put stands i p n s)
  unfolding emptied
  emptied_changed stands i p zero s = refl
  emptied_changed stands i p (suc n) s =
      ap (λ (t : S). emptied levels read put stands i (suc p) n (cond (stands p) (change s) t)) (puts i _ _ s)
      ∙ ap (emptied levels read put stands i (suc p) n) (cond_through change (stands p) _ _)
      ∙ emptied_changed stands i (suc p) n _

  cleared_changed : (stood : ℕ → ℕ → Bool) (i first last : ℕ) (s : S) → cleared levels read put stood i first last (change s) ≡ change (cleared levels read put stood i first last s)
  unfolding cleared
  cleared_changed stood zero first last s = refl
  cleared_changed stood (suc i) first last s =
      ap (emptied levels read put (stood i) i _ _) (cleared_changed stood i _ _ s) ∙ emptied_changed (stood i) i _ _ _

  entered_changed : (i b n : ℕ) (s : S) → entered levels read put i b n (change s) ≡ change (entered levels read put i b n s)
  unfolding entered
  entered_changed i b zero s = refl
  entered_changed i b (suc n) s =
      ap (λ (f : ℕ → ℕ → ℕ). entered levels read put i (suc b) n (put i (32 * b) (sha256 (block (levels (suc i)) (f (suc i)) b)) (change s))) (reads s)
      ∙ ap (entered levels read put i (suc b) n) (puts i _ _ s)
      ∙ entered_changed i (suc b) n _

  rehashed_changed : (i first last : ℕ) (s : S) → rehashed levels read put i first last (change s) ≡ change (rehashed levels read put i first last s)
  unfolding rehashed
  rehashed_changed zero first last s = refl
  rehashed_changed (suc i) first last s = ap (rehashed levels read put i _ _) (entered_changed i first _ s) ∙ rehashed_changed i _ _ _

  written_changed : (i x : ℕ) (values : List ℕ) (s : S) → written levels read put i x values (change s) ≡ change (written levels read put i x values s)
  unfolding written
  written_changed i x [] s = refl
  written_changed i x (value ∷ values) s =
      let first = block_of (levels i) x in
      let last = last_block (levels i) x (length (value ∷ values)) in
      ap (λ (f : ℕ → ℕ → ℕ). rehashed levels read put i first last (put i x (value ∷ values) (cleared levels read put (verified levels f) i first last (change s)))) (reads s)
      ∙ ap (λ (t : S). rehashed levels read put i first last (put i x (value ∷ values) t)) (cleared_changed (verified levels (read s)) i first last s)
      ∙ ap (rehashed levels read put i first last) (puts i x (value ∷ values) _)
      ∙ rehashed_changed i first last _

-- ---- bytes laid over the front

module _ (p : ℕ) (bytes : List ℕ) (h : p + length bytes ≤ 0x100) where
  abbrev laid : List ℕ → List ℕ
  laid s = sets s p bytes

  pub laid_front : (s : List ℕ) → Fronted s (laid s)
  laid_front s = keeps_sets (InRange (ignored Plain)) s p bytes (λ i l. (omega arith, omega arith))

  laid_copied : (s : List ℕ) (source target n : ℕ) → 0x100 ≤ source → 0x100 ≤ target → copied (laid s) source target n ≡ laid (copied s source target n)
  unfolding copied
  laid_copied s source target zero a b = refl
  laid_copied s source target (suc n) a b =
      (λ i. set (laid_copied s source target n a b i) (target + n) (past s (laid s) (laid_front s) (source + n) (omega arith) i))
      ∙ set_after bytes (copied s source target n) p (target + n) _ (omega arith)

  -- ---- a tree

  module _ (lower upper : Level) (a : 0x100 ≤ lower.offset) (b : 0x100 ≤ upper.offset) where
    block_laid : (second : Bool) (j : ℕ) (s : List ℕ) → dpfs.block_copied lower second j (laid s) ≡ laid (dpfs.block_copied lower second j s)
    unfolding dpfs.block_copied place
    block_laid second j s = laid_copied s _ _ _ (omega arith) (omega arith)

    flipped_laid : (selection : ℕ → Bool) (n : ℕ) (s : List ℕ) → dpfs.bit_flipped upper selection n (laid s) ≡ laid (dpfs.bit_flipped upper selection n s)
    unfolding dpfs.bit_flipped place
    flipped_laid selection n s =
        ap (λ (f : ℕ → ℕ). set (laid s) (place upper (selection (block_of upper (bit_byte n))) (bit_byte n)) (flip_bit (f (bit_byte n)) (bit_place n)))
        (front_level s (laid s) (laid_front s) upper selection b)
        ∙ set_after bytes s p _ _ (omega arith)

    moved_laid : (live staged : ℕ → Bool) (j : ℕ) (s : List ℕ) → dpfs.moved upper live staged lower j (laid s) ≡ laid (dpfs.moved upper live staged lower j s)
    unfolding dpfs.moved
    moved_laid live staged j s =
        let l = front_level s (laid s) (laid_front s) upper live b in
        let t = front_level s (laid s) (laid_front s) upper staged b in
        (λ i. cond (dpfs.same (bit_of (l i) j) (bit_of (t i) j)) (dpfs.bit_flipped upper staged j (dpfs.block_copied lower (bit_of (l i) j) j (laid s))) (laid s))
        ∙ ap (λ (x : List ℕ). cond (dpfs.same (bit_of (level_byte upper live s) j) (bit_of (level_byte upper staged s) j)) x (laid s))
        (ap (dpfs.bit_flipped upper staged j) (block_laid _ j s) ∙ flipped_laid staged j _)
        ∙ cond_through laid (dpfs.same (bit_of (level_byte upper live s) j) (bit_of (level_byte upper staged s) j))
        (dpfs.bit_flipped upper staged j (dpfs.block_copied lower (bit_of (level_byte upper live s) j) j s)) s

  module _ (tree : Tree) (t : TreePast tree) where
    moved2_laid : (j : ℕ) (s : List ℕ) → dpfs.moved2 tree j (laid s) ≡ laid (dpfs.moved2 tree j s)
    unfolding dpfs.moved2
    moved2_laid j s = moved_laid tree.level2 tree.level1 t.level2 t.level1 _ _ j s

    moved3alone_laid : (j : ℕ) (s : List ℕ) → dpfs.moved3alone tree j (laid s) ≡ laid (dpfs.moved3alone tree j s)
    unfolding dpfs.moved3alone
    moved3alone_laid j s =
        (λ i. dpfs.moved tree.level2 (front_select2 s (laid s) (laid_front s) tree t tree.live i)
        (front_select2 s (laid s) (laid_front s) tree t (not tree.live) i) tree.level3 j (laid s))
        ∙ moved_laid tree.level3 tree.level2 t.level3 t.level2 _ _ j s

    moved3_laid : (j : ℕ) (s : List ℕ) → dpfs.moved3 tree j (laid s) ≡ laid (dpfs.moved3 tree j s)
    unfolding dpfs.moved3
    moved3_laid j s = ap (dpfs.moved3alone tree j) (moved2_laid _ s) ∙ moved3alone_laid j _

    stored_laid : (x value : ℕ) (s : List ℕ) → dpfs.stored tree x value (laid s) ≡ laid (dpfs.stored tree x value s)
    unfolding dpfs.stored place
    stored_laid x value s =
        ap (λ (f : ℕ → Bool). set (laid s) (place tree.level3 (f (block_of tree.level3 x)) x) value)
        (front_select3 s (laid s) (laid_front s) tree t (not tree.live))
        ∙ set_after bytes s p _ value (let k = t.level3 in omega arith)

    put_laid : (x : ℕ) (values s : List ℕ) → dpfs.put tree x values (laid s) ≡ laid (dpfs.put tree x values s)
    unfolding dpfs.put
    put_laid x [] s = refl
    put_laid x (value ∷ values) s =
        ap (λ (y : List ℕ). dpfs.put tree (suc x) values (dpfs.stored tree x value y)) (moved3_laid _ s)
        ∙ ap (dpfs.put tree (suc x) values) (stored_laid x value _)
        ∙ put_laid (suc x) values _

    begun_laid : (s : List ℕ) → dpfs.begun tree (laid s) ≡ laid (dpfs.begun tree s)
    unfolding dpfs.begun place
    begun_laid s = let k = t.level1 in laid_copied s _ _ _ (omega arith) (omega arith)

  -- ---- a write

  module _ (view : View) (v : Past view) where
    level_laid : (i x : ℕ) (values s : List ℕ) → put_level view i x values (laid s) ≡ laid (put_level view i x values s)
    unfolding put_level
    level_laid zero x values s = sets_after values bytes s p _ (let k = v.master in omega arith)
    level_laid (suc i) x values s =
        let k = v.outside in
        (λ j. cond (outer view (suc i)) (sets_after values bytes s p (view.outside + x) (omega arith) j)
        (put_laid view.tree v.tree ((level_of view (suc i)).offset + x) values s j))
        ∙ cond_through laid (outer view (suc i)) _ _

    pub written_laid : (x : ℕ) (values s : List ℕ) → written_to view x values (laid s) ≡ laid (written_to view x values s)
    unfolding written_to
    written_laid x values s =
        written_changed (level_of view) (content_of view) (put_level view) laid (λ t. front_seen t (laid t) (laid_front t) view v) level_laid 4 x values s

  -- ---- begin

  module _ (image : List ℕ) (c : Container) (g : Guarantees image c) where
    trees_laid : (s : List ℕ) → for_each c (λ (q : ℕ). dpfs.begun (tree_of c q)) (laid s) ≡ laid (for_each c (λ (q : ℕ). dpfs.begun (tree_of c q)) s)
    trees_laid s = by (eqb (partitions c) 2) refl
      where
        a : (s : List ℕ) → dpfs.begun (tree_of c 0) (laid s) ≡ laid (dpfs.begun (tree_of c 0) s)
        a = begun_laid (tree_of c 0) (tree_past image c g 0 (first_there (length image) c.header g.header))

        by : (t : Bool) → eqb (partitions c) 2 ≡ t
            → cond t (dpfs.begun (tree_of c 1) (dpfs.begun (tree_of c 0) (laid s))) (dpfs.begun (tree_of c 0) (laid s))
            ≡ laid (cond t (dpfs.begun (tree_of c 1) (dpfs.begun (tree_of c 0) s)) (dpfs.begun (tree_of c 0) s))
        by true e = ap (dpfs.begun (tree_of c 1)) (a s) ∙ begun_laid (tree_of c 1) (tree_past image c g 1 (two_there image c g e)) _
        by false e = a s

    pub begin_laid : begun_image c (laid image) ≡ laid (begun_image c image)
    unfolding begun_image table_begun
    begin_laid =
        let k = (inactive_table image c g).past in
        ap (λ (x : List ℕ). for_each c (λ (q : ℕ). dpfs.begun (tree_of c q)) (sets (laid image) (inactive c.header).offset x)) (front_table image (laid image) (laid_front image) c g)
        ∙ ap (for_each c (λ (q : ℕ). dpfs.begun (tree_of c q))) (sets_after (staged_table c image) bytes image p (inactive c.header).offset (omega arith))
        ∙ trees_laid _
