-- What the proofs of the staging code cite: what its calls ask for, and what they leave. Assumes nothing.
use mathlib.Core.Path.{◌≡◌, sym, ap, ◌∙◌, subst, subst₂, subst₃}
use mathlib.Core.List.{List}
use mathlib.Core.Bool.{Bool, not, cond}
use mathlib.Core.Logic.{inl, inr}
use Prim.Native.Nat.{ℕ, ◌+◌, ◌-◌, ◌*◌, ◌≤◌, ◌<◌}
use native.Mathlib.Omega.{arith}
use lib.ListN.{length, get_or, set, take, drop, length-drop, take-append-drop}
use lib.Seq.{sets, length-take-le, drop-drop, drop-length}
use Rattle.number.specs.declared.Level.{Level}
use Rattle.number.specs.Blocks.{block_size, blocks, block_of, block_length}
use Rattle.number.specs.Bytes.{copied}
use Rattle.number.specs.Frame.{Keeps}
use Rattle.number.proofs.BlockLaws.{exists_byte, block_inside}
use Rattle.number.proofs.FrameLaws.{keeps_copied}
use Rattle.dpfs.specs.declared.Tree.{Tree}
use Rattle.dpfs.specs.declared.Space.{Space}
use Rattle.dpfs.specs.Free.{FreeCopy, FreeIn, Free}
use Rattle.dpfs.specs.Bits.{bit_byte, bit_place, flip_bit, bit_of}
use Rattle.dpfs.specs.Tree.{place, level_byte, select1, select2, select3}
use Rattle.dpfs.specs.Staging.{begun, OffLive2, OffLive3, same, block_copied, bit_flipped, moved, moved2, moved3alone, moved3, put}
use Rattle.dpfs.specs.Rules.{WellPlaced, Among, block_rest}
use Rattle.dpfs.proofs.LevelLaws.{place_add, place_ends, place_inside, halves_apart, bit_inside1, bit_inside2, held1, held2, block_places, block_keeps}
use Rattle.dpfs.proofs.RunLaws.{run_some, run_ends, run_room, run_further, run_block}
use Rattle.dpfs.proofs.TreeLaws.{moved2_off, moved2_keeps, moved3_off3, moved3_keeps}
use Rattle.dpfs.proofs.PutLaws.{put_run, put_append}
use Rattle.dpfs.proofs.BeginLaws.{other_free}
use Rattle.dpfs.proofs.SpaceLaws.{tree_free, tree_keeps, kept_free, space_put, space_trans}
use Rattle.stores.specs.Rules.{OwnSpace, CopyRules, BlockRules}
use Rattle.stores.proofs.OwnLaws.{own_rules, own_placed, own_kept}

-- while free bytes change, what is free stays free, and the space the image's own
pub still_free : (space : Space) (image : List ℕ) → OwnSpace space image → (after : List ℕ) → Keeps (Free space image) image after → (i : ℕ) → Free space image i → Free space after i
still_free space image r after k i f = (kept_free space (length image) (own_rules space image r) image after k i).1 f

module _ (space : Space) (image after : List ℕ) (source target n i : ℕ) (r : CopyRules space image source target n) (h : i < n) (e : after ≡ copied image source target i) where
  copy_keeps : Keeps (Free space image) image after
  copy_keeps = subst (Keeps (Free space image) image) (sym e) (keeps_copied (Free space image) image source target i (λ m k. r.free m (omega arith)))

  pub copy_own : OwnSpace space after
  copy_own = own_kept space image r.own after copy_keeps

  pub copy_free : Free space after (target + i)
  copy_free = still_free space image r.own after copy_keeps (target + i) (r.free i h)

-- ---- copies

pub begin_asks : (space : Space) (tree : Tree) (image : List ℕ) (source target : ℕ) → OwnSpace space image → Among tree space
    → source ≡ place tree.level1 tree.live 0 → target ≡ place tree.level1 (not tree.live) 0 → CopyRules space image source target tree.level1.size
begin_asks space tree image source target r m es et =
    let w = own_placed space image r tree m in
    let whole : 0 + tree.level1.size ≤ tree.level1.size = omega arith in
    subst₂ (λ (p q : ℕ). CopyRules space image p q tree.level1.size) (sym es) (sym et) (record {
      own = r;
      from = place_ends tree.level1 (length image) w.inside1 tree.live 0 tree.level1.size whole;
      to = place_ends tree.level1 (length image) w.inside1 (not tree.live) 0 tree.level1.size whole;
      apart = halves_apart tree.level1 tree.live 0 tree.level1.size whole;
      free = λ k h. tree_free space tree m image _ (other_free tree image k h);
    })

pub begun_is : (tree : Tree) (image after : List ℕ) (source target : ℕ) → source ≡ place tree.level1 tree.live 0
    → target ≡ place tree.level1 (not tree.live) 0 → after ≡ copied image source target tree.level1.size → after ≡ begun tree image
unfolding begun
begun_is tree image after source target es et e = cc

-- the block starts in the level
pub block_start : (space : Space) (image : List ℕ) (l : Level) (second : Bool) (b : ℕ) → BlockRules space image l second b → b * block_size l < l.size
block_start space image l second b r = exists_byte l b r.exists

pub copy_asks : (space : Space) (image : List ℕ) (l : Level) (second : Bool) (b y source target n : ℕ) → BlockRules space image l second b
    → y ≡ b * block_size l → source ≡ place l second y → target ≡ place l (not second) y → n ≡ block_length l b → CopyRules space image source target n
copy_asks space image l second b y source target n r ey es et en =
    let start = block_start space image l second b r in
    let ends : b * block_size l + block_length l b ≤ l.size = block_inside l b (omega arith) in
    subst₃ (CopyRules space image) (sym (es ∙ ap (place l second) ey)) (sym (et ∙ ap (place l (not second)) ey)) (sym en) (record {
      own = r.own;
      from = place_ends l (length image) r.inside second (b * block_size l) (block_length l b) ends;
      to = place_ends l (length image) r.inside (not second) (b * block_size l) (block_length l b) ends;
      apart = halves_apart l second (b * block_size l) (block_length l b) ends;
      free = block_places (Free space image) l (not second) b r.free;
    })

pub block_copied_is : (image after : List ℕ) (l : Level) (second : Bool) (b y source target n : ℕ) → y ≡ b * block_size l → source ≡ place l second y
    → target ≡ place l (not second) y → n ≡ block_length l b → after ≡ copied image source target n → after ≡ block_copied l second b image
unfolding block_copied
block_copied_is image after l second b y source target n ey es et en e = cc

-- ---- moves

-- the space and the place of the bit stay in the copy
module _ (space : Space) (image after : List ℕ) (l : Level) (second : Bool) (b : ℕ) (r : BlockRules space image l second b) (e : after ≡ block_copied l second b image) where
  block_kept : Keeps (Free space image) image after
  block_kept = subst (Keeps (Free space image) image) (sym e) (block_keeps l second b image (Free space image) r.free)

  pub flip_own : OwnSpace space after
  flip_own = own_kept space image r.own after block_kept

  pub flip_free : (at : ℕ) → Free space image at → Free space after at
  flip_free at f = still_free space image r.own after block_kept at f

-- a move as the code makes it, of the copies that are live and staged and the place of the bit's byte
pub moved_code : (upper : Level) (live staged : ℕ → Bool) (lower : Level) (b : ℕ) (image after : List ℕ) (c d : Bool) (at : ℕ)
    → c ≡ bit_of (level_byte upper live image) b → d ≡ bit_of (level_byte upper staged image) b
    → at ≡ place upper (staged (block_of upper (bit_byte b))) (bit_byte b)
    → after ≡ cond (same c d) (set (block_copied lower c b image) at (flip_bit (get_or (block_copied lower c b image) at 0) (bit_place b))) image
    → after ≡ moved upper live staged lower b image
unfolding moved bit_flipped level_byte
moved_code upper live staged lower b image after c d at ec ed ea e =
    e ∙ (λ i. cond (same (ec i) (ed i)) (set (block_copied lower (ec i) b image) (ea i) (flip_bit (get_or (block_copied lower (ec i) b image) (ea i) 0) (bit_place b))) image)

module _ (space : Space) (tree : Tree) (image : List ℕ) (r : OwnSpace space image) (m : Among tree space) where
  w : WellPlaced tree (length image)
  w = own_placed space image r tree m

  -- of level 2
  module _ (j : ℕ) (h : j < blocks tree.level2) where
    pub move2_asks : (c : Bool) → c ≡ select2 tree image tree.live j → BlockRules space image tree.level2 c j
    unfolding FreeIn FreeCopy
    move2_asks c e = record {
      own = r;
      log = w.log2.1;
      inside = w.inside2;
      exists = h;
      free = λ y k f. tree_free space tree m image _
          (inr (inl (y, k, ap (λ (d : Bool). place tree.level2 (not d) y) (e ∙ ap (select2 tree image tree.live) (sym f)))));
    }

    pub move2_bit : (y at : ℕ) → y ≡ bit_byte j → at ≡ place tree.level1 (not tree.live) y → (Free space image at) × (at < length image)
    unfolding FreeIn FreeCopy select1
    move2_bit y at ey ea =
        let e : at ≡ place tree.level1 (not tree.live) (bit_byte j) = ea ∙ ap (place tree.level1 (not tree.live)) ey in
        let i : bit_byte j < tree.level1.size = bit_inside1 tree (length image) w j h in (
          tree_free space tree m image at (inl (bit_byte j, i, e)),
          omega (arith, place_inside tree.level1 (length image) w.inside1 (not tree.live) (bit_byte j) i),
        )

  pub move2_is : (j : ℕ) (after : List ℕ) (c d : Bool) (y at : ℕ) → c ≡ select2 tree image tree.live j → d ≡ select2 tree image (not tree.live) j
      → y ≡ bit_byte j → at ≡ place tree.level1 (not tree.live) y
      → after ≡ cond (same c d) (set (block_copied tree.level2 c j image) at (flip_bit (get_or (block_copied tree.level2 c j image) at 0) (bit_place j))) image
      → after ≡ moved2 tree j image
  unfolding moved2 select2 select1
  move2_is j after c d y at ec ed ey ea e =
      moved_code tree.level1 (select1 tree.live) (select1 (not tree.live)) tree.level2 j image after c d at ec ed
      (ea ∙ ap (place tree.level1 (not tree.live)) ey) e

  -- of level 3
  module _ (b : ℕ) (h : b < blocks tree.level3) where
    pub move3_asks : (c : Bool) → c ≡ select3 tree image tree.live b → BlockRules space image tree.level3 c b
    unfolding FreeIn FreeCopy
    move3_asks c e = record {
      own = r;
      log = w.log3.1;
      inside = w.inside3;
      exists = h;
      free = λ y k f. tree_free space tree m image _
          (inr (inr (y, k, ap (λ (d : Bool). place tree.level3 (not d) y) (e ∙ ap (select3 tree image tree.live) (sym f)))));
    }

    pub move3_bit : OffLive2 tree image (block_of tree.level2 (bit_byte b)) → (at : ℕ)
        → at ≡ place tree.level2 (select2 tree image (not tree.live) (block_of tree.level2 (bit_byte b))) (bit_byte b) → (Free space image at) × (at < length image)
    unfolding FreeIn FreeCopy
    move3_bit off at e =
        let i : bit_byte b < tree.level2.size = bit_inside2 tree (length image) w b h in (
          tree_free space tree m image at (inr (inl (bit_byte b, i, e ∙ ap (λ (d : Bool). place tree.level2 d (bit_byte b)) off))),
          subst (λ (k : ℕ). k < length image) (sym e) (place_inside tree.level2 (length image) w.inside2 _ (bit_byte b) i),
        )

    pub move3_off : (j : ℕ) (after : List ℕ) → j ≡ block_of tree.level2 (bit_byte b) → after ≡ moved2 tree j image → OffLive2 tree after (block_of tree.level2 (bit_byte b))
    move3_off j after ej e =
        subst (λ (l : List ℕ). OffLive2 tree l (block_of tree.level2 (bit_byte b))) (sym (e ∙ ap (λ (k : ℕ). moved2 tree k image) ej))
        (moved2_off tree (block_of tree.level2 (bit_byte b)) image w (held1 tree (length image) w (bit_byte b) (bit_inside2 tree (length image) w b h)))

    pub move3_own : (j : ℕ) (after : List ℕ) → j ≡ block_of tree.level2 (bit_byte b) → after ≡ moved2 tree j image → OwnSpace space after
    move3_own j after ej e =
        own_kept space image r after
        (subst (Keeps (Free space image) image) (sym (e ∙ ap (λ (k : ℕ). moved2 tree k image) ej))
        (tree_keeps space tree m image _ (moved2_keeps tree (block_of tree.level2 (bit_byte b)) image w (held1 tree (length image) w (bit_byte b) (bit_inside2 tree (length image) w b h)))))

  pub move3_alone_is : (b : ℕ) (after : List ℕ) (c d : Bool) (at : ℕ) → c ≡ select3 tree image tree.live b → d ≡ select3 tree image (not tree.live) b
      → at ≡ place tree.level2 (select2 tree image (not tree.live) (block_of tree.level2 (bit_byte b))) (bit_byte b)
      → after ≡ cond (same c d) (set (block_copied tree.level3 c b image) at (flip_bit (get_or (block_copied tree.level3 c b image) at 0) (bit_place b))) image
      → after ≡ moved3alone tree b image
  unfolding moved3alone select3
  move3_alone_is b after c d at ec ed ea e =
      moved_code tree.level2 (select2 tree image tree.live) (select2 tree image (not tree.live)) tree.level3 b image after c d at ec ed ea e

pub move3_is : (tree : Tree) (b j : ℕ) (image next after : List ℕ) → j ≡ block_of tree.level2 (bit_byte b) → next ≡ moved2 tree j image → after ≡ moved3alone tree b next
    → after ≡ moved3 tree b image
unfolding moved3
move3_is tree b j image next after ej en ea = ea ∙ ap (moved3alone tree b) (en ∙ ap (λ (k : ℕ). moved2 tree k image) ej)

-- ---- runs

module _ (space : Space) (tree : Tree) (image : List ℕ) (r : OwnSpace space image) (m : Among tree space) (x : ℕ) (values : List ℕ)
    (some : 0 < length values) (room : length values ≤ block_rest tree x tree.level3.size) where
  ends : x + length values ≤ tree.level3.size
  ends = run_room tree x tree.level3.size (length values) some room

  pub run_starts : x < tree.level3.size
  run_starts = omega (arith, ends)

  one : (k : ℕ) → k < length values → block_of tree.level3 (x + k) ≡ block_of tree.level3 x
  one k h = run_block tree x tree.level3.size run_starts k (omega arith)

  -- where the block of x, which is b, is moved, and its staged copy is c
  module _ (b : ℕ) (next : List ℕ) (c : Bool) (p : ℕ) (eb : b ≡ block_of tree.level3 x) (en : next ≡ moved3 tree b image)
      (ec : c ≡ select3 tree next (not tree.live) b) (ep : p ≡ place tree.level3 c x) where
    w_tree : WellPlaced tree (length image)
    w_tree = own_placed space image r tree m

    inside2 : bit_byte (block_of tree.level3 x) < tree.level2.size
    inside2 = held2 tree (length image) w_tree x run_starts

    off : OffLive3 tree next (block_of tree.level3 x)
    off =
        subst (λ (l : List ℕ). OffLive3 tree l (block_of tree.level3 x)) (sym (en ∙ ap (λ (k : ℕ). moved3 tree k image) eb))
        (moved3_off3 tree (block_of tree.level3 x) image w_tree inside2)

    pub run_own : OwnSpace space next
    run_own =
        own_kept space image r next
        (subst (Keeps (Free space image) image) (sym (en ∙ ap (λ (k : ℕ). moved3 tree k image) eb))
        (tree_keeps space tree m image _ (moved3_keeps tree (block_of tree.level3 x) image w_tree inside2)))

    is_c : c ≡ not (select3 tree next tree.live (block_of tree.level3 x))
    is_c = ec ∙ ap (select3 tree next (not tree.live)) eb ∙ off

    pub run_free : (k : ℕ) → k < length values → Free space next (p + k)
    unfolding FreeIn FreeCopy
    run_free k h =
        tree_free space tree m next (p + k)
        (inr (inr (
          x + k,
          omega (arith, ends),
          ap (λ (q : ℕ). q + k) ep ∙ sym (place_add tree.level3 c x k)
              ∙ ap (λ (d : Bool). place tree.level3 d (x + k)) (is_c ∙ ap (λ (n : ℕ). not (select3 tree next tree.live n)) (sym (one k h))),
        )))

    pub run_is_put : (after : List ℕ) → after ≡ sets next p values → after ≡ put tree x values image
    run_is_put after e =
        e
        ∙ (λ i. sets (known i) (ep i) values)
        ∙ ap (λ (d : Bool). sets (moved3 tree (block_of tree.level3 x) image) (place tree.level3 d x) values)
        (ec ∙ (λ i. select3 tree (known i) (not tree.live) (eb i)))
        ∙ put_run tree x values image w_tree some ends one
      where
        known : next ≡ moved3 tree (block_of tree.level3 x) image
        known = en ∙ ap (λ (k : ℕ). moved3 tree k image) eb

-- a run more keeps what is not free
pub put_kept : (space : Space) (tree : Tree) (image : List ℕ) → OwnSpace space image → Among tree space → (x : ℕ) (values now after : List ℕ)
    → Keeps (Free space image) image now → x + length values ≤ tree.level3.size → after ≡ put tree x values now → Keeps (Free space image) image after
put_kept space tree image r m x values now after k h e =
    space_trans space (length image) (own_rules space image r) image now after k
    (subst (Keeps (Free space now) now) (sym e) (space_put space tree now (own_rules space now (own_kept space image r now k)) m x values h))

-- the run from i to k is put, and the rest is left
pub put_turn : (tree : Tree) (x i k : ℕ) (values image after goal : List ℕ) → i ≤ k → k ≤ length values
    → after ≡ put tree (x + i) (take (k - i) (drop i values)) image → put tree (x + i) (drop i values) image ≡ goal → put tree (x + k) (drop k values) after ≡ goal
put_turn tree x i k values image after goal h l ea eg =
    let run : List ℕ = take (k - i) (drop i values) in
    let long : length (drop i values) ≡ length values - i = length-drop i values in
    let short : length run ≡ k - i = length-take-le (k - i) (drop i values) (omega arith) in
    let ex : x + k ≡ (x + i) + length run = omega arith in
    let ek : k ≡ i + (k - i) = omega arith in
    (λ q. put tree (ex q) (drop (ek q) values) (ea q))
    ∙ ap (λ (t : List ℕ). put tree (x + i + length run) t (put tree (x + i) run image)) (sym (drop-drop (k - i) i values))
    ∙ sym (put_append tree (x + i) run (drop (k - i) (drop i values)) image)
    ∙ ap (λ (t : List ℕ). put tree (x + i) t image) (take-append-drop (k - i) (drop i values))
    ∙ eg

pub put_end : (tree : Tree) (x i : ℕ) (values image goal : List ℕ) → i ≡ length values → put tree (x + i) (drop i values) image ≡ goal → image ≡ goal
unfolding put
put_end tree x i values image goal e eg =
    sym (ap (λ (l : List ℕ). put tree (x + i) l image) (ap (λ (k : ℕ). drop k values) e ∙ drop-length values)) ∙ eg

-- the run from i on, of values that go to x: where it ends, and that there is room for it
module _ (tree : Tree) (x i : ℕ) (values : List ℕ) (end : ℕ) (h : i < length values) (fits : x + length values ≤ tree.level3.size)
    (e : end ≡ x + i + block_rest tree (x + i) (x + length values)) where
  pub next_run : (x ≤ end) × (i < end - x) × (end - x ≤ length values)
  next_run =
      let some : 0 < block_rest tree (x + i) (x + length values) = run_some tree (x + i) (x + length values) (omega arith) in
      let most : x + i + block_rest tree (x + i) (x + length values) ≤ x + length values = run_ends tree (x + i) (x + length values) (omega arith) in
      (omega arith, omega arith, omega arith)

  pub run_part : (0 < length (take (end - x - i) (drop i values))) × (length (take (end - x - i) (drop i values)) ≤ block_rest tree (x + i) tree.level3.size)
  run_part =
      let some : 0 < block_rest tree (x + i) (x + length values) = run_some tree (x + i) (x + length values) (omega arith) in
      let most : x + i + block_rest tree (x + i) (x + length values) ≤ x + length values = run_ends tree (x + i) (x + length values) (omega arith) in
      let long : length (drop i values) ≡ length values - i = length-drop i values in
      let short : length (take (end - x - i) (drop i values)) ≡ end - x - i = length-take-le (end - x - i) (drop i values) (omega arith) in
      (omega arith, omega (arith, run_further tree (x + i) (x + length values) tree.level3.size fits))

  pub run_fits : x + i + length (take (end - x - i) (drop i values)) ≤ tree.level3.size
  run_fits =
      let most : x + i + block_rest tree (x + i) (x + length values) ≤ x + length values = run_ends tree (x + i) (x + length values) (omega arith) in
      let long : length (drop i values) ≡ length values - i = length-drop i values in
      let short : length (take (end - x - i) (drop i values)) ≡ end - x - i = length-take-le (end - x - i) (drop i values) (omega arith) in
      omega arith
