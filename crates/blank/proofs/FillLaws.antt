-- Stores one after another make the table, the header and the image. Assumes nothing.
use Prim.Native.Nat.{ℕ, zero, suc, ◌+◌, ◌*◌, ◌≤◌, ◌<◌}
use mathlib.Core.Bool.{Bool, ◌||◌}
use mathlib.Core.Path.{◌≡◌, refl, sym, ap, ap₂, ◌∙◌}
use mathlib.Core.List.{List, [], ◌∷◌, ◌++◌}
use native.Mathlib.Omega.{arith}
use native.Mathlib.Nat.{add-zero, zero-add}
use lib.ListN.{length, get_or, length-append, length-replicate}
use lib.Seq.{sets, length-sets}
use Rattle.number.specs.Fields.{field_bytes}
use Rattle.number.specs.declared.Level.{Level}
use Rattle.number.specs.Blocks.{block_size, blocks, block_length}
use Rattle.number.proofs.ListLaws.{sets_append, sets_in}
use Rattle.number.proofs.BlockLaws.{exists_byte, block_inside}
use Rattle.sha256.specs.Sha256.{sha256}
use Rattle.layout.specs.declared.Kind.{Kind}
use Rattle.layout.specs.declared.Kind.TheVariants.{Disa, Diff}
use Rattle.layout.specs.Magic.{disa_magic, diff_magic, difi_magic, ivfc_magic, dpfs_magic}
use Rattle.ivfc.specs.Blocks.{block}
use Rattle.ivfc.specs.Verified.{zero_entry}
use Rattle.ivfc.specs.Rows.{digests}
use Rattle.ivfc.proofs.EntryLaws.{block_cong}
use Rattle.blank.specs.Rules.{bytes_from}
use Rattle.blank.specs.Sizes.{h1, h2, h3, ivfc2, ivfc3, ivfc4, place4, size1, size2, size3, place2, place3, partition_size, image_size}
use Rattle.blank.specs.Fields.{eights, level_fields}
use Rattle.blank.specs.Image.{zeros, byte2, byte3, byte4, header_with, hashes1, hashes2, hashes3, difi, ivfc, dpfs, pieces, disa_fields, diff_fields, half_place, hashed}
use Rattle.blank.specs.Making.{some_zero, zero_hashes}
use Rattle.blank.proofs.SizeLaws.{Sized}
use Rattle.blank.proofs.ImageLaws as im

-- ---- a store right behind another

pub behind : (s t u : List ℕ) (at off : ℕ) (l m whole : List ℕ) → t ≡ sets s at l → u ≡ sets t (at + off) m → length l ≡ off → l ++ m ≡ whole → u ≡ sets s at whole
behind s t u at off l m whole p q e w =
    q ∙ ap (λ (x : List ℕ). sets x (at + off) m) p ∙ sets_append s at (at + off) l m (omega arith) ∙ ap (λ (x : List ℕ). sets s at x) w

-- ---- the pieces, as lists of numbers

pub difi_is : (difi_magic ++ eights (0x44 ∷ 0x78 ∷ 0xBC ∷ 0x50 ∷ 0x10C ∷ 0x20 ∷ [])) ++ zeros 12 ≡ difi
unfolding difi eights field_bytes
difi_is = refl

pub ivfc_is : (n a b c d : ℕ) → a ≡ h1 n → b ≡ h2 n → c ≡ h3 n → d ≡ place4 n
    → ivfc_magic ++ eights (0x20 ∷ 0 ∷ a ∷ 9 ∷ a ∷ b ∷ 9 ∷ (a + b) ∷ c ∷ 12 ∷ d ∷ (0x1000 * n) ∷ 12 ∷ 0x78 ∷ []) ≡ ivfc n
unfolding ivfc eights level_fields field_bytes
ivfc_is n a b c d p q r s = rw (p, q, r, s) refl

pub dpfs_is : (n a b c d e : ℕ) → a ≡ size1 n → b ≡ place2 n → c ≡ size2 n → d ≡ place3 n → e ≡ size3 n
    → dpfs_magic ++ eights (0 ∷ a ∷ 0 ∷ b ∷ c ∷ 7 ∷ d ∷ e ∷ 12 ∷ []) ≡ dpfs n
unfolding dpfs eights level_fields field_bytes
dpfs_is n a b c d e p q r s t = rw (p, q, r, s, t) refl

pub disa_is : (n size : ℕ) → size ≡ partition_size n
    → (disa_magic ++ eights (1 ∷ 0x200 ∷ 0x330 ∷ 0x12C ∷ 0 ∷ 0x12C ∷ 0 ∷ 0 ∷ 0x1000 ∷ size ∷ 0 ∷ 0 ∷ [])) ++ zeros 4 ≡ disa_fields n
unfolding disa_fields eights field_bytes
disa_is n size e = rw e refl

pub diff_is : (n size : ℕ) → size ≡ partition_size n
    → (diff_magic ++ eights (0x200 ∷ 0x330 ∷ 0x12C ∷ 0x1000 ∷ size ∷ [])) ++ zeros 4 ≡ diff_fields n
unfolding diff_fields eights field_bytes
diff_is n size e = rw e refl

length_difi : length difi ≡ 0x44
unfolding difi field_bytes
length_difi = refl

length_two : (n : ℕ) → length (difi ++ ivfc n) ≡ 0xBC
unfolding difi ivfc level_fields field_bytes
length_two n = refl

-- all four, one behind another
pub table_is : (n at : ℕ) (s t u v x hash : List ℕ) → t ≡ sets s at difi → u ≡ sets t (at + 0x44) (ivfc n) → v ≡ sets u (at + 0xBC) (dpfs n)
    → x ≡ sets v (at + 0x10C) hash → x ≡ sets s at (pieces n ++ hash)
unfolding pieces
table_is n at s t u v x hash p q r e =
    let a = behind s t u at 0x44 difi (ivfc n) (difi ++ ivfc n) p q length_difi refl in
    let b = behind s u v at 0xBC (difi ++ ivfc n) (dpfs n) (difi ++ ivfc n ++ dpfs n) a r (length_two n) refl in
    behind s v x at 0x10C (difi ++ ivfc n ++ dpfs n) hash (difi ++ ivfc n ++ dpfs n ++ hash) b e (im.length_pieces n) refl

-- the header: its fields, a hash of 32 bytes, zeros
pub header_is : (at off rest : ℕ) (s t u v fields hash : List ℕ) → length fields ≡ off → length hash ≡ 32 → t ≡ sets s at fields
    → u ≡ sets t (at + off) hash → v ≡ sets u (at + (off + 32)) (zeros rest) → v ≡ sets s at (fields ++ hash ++ zeros rest)
header_is at off rest s t u v fields hash n m p q r =
    let a = behind s t u at off fields hash (fields ++ hash) p q n refl in
    behind s u v at (off + 32) (fields ++ hash) (zeros rest) (fields ++ hash ++ zeros rest) a r (length-append fields hash ∙ ap₂ (λ (x y : ℕ). x + y) n m) refl

-- ---- digests of contents that agree

module _ (l : Level) (f g : ℕ → ℕ) (same : (y : ℕ) → y < l.size → f y ≡ g y) where
  pub same_block : (b : ℕ) → b < blocks l → block l f b ≡ block l g b
  same_block b h =
      let inside : b * block_size l + block_length l b ≤ l.size = block_inside l b (omega (arith, exists_byte l b h)) in
      block_cong l f g b (λ k p. same (b * block_size l + k) (omega arith))

  pub same_digests : (k : ℕ) → k ≤ blocks l → digests l f 0 k ≡ digests l g 0 k
  unfolding digests
  same_digests zero h = refl
  same_digests (suc k) h =
      ap₂ (λ (x y : List ℕ). x ++ y) (same_digests k (omega arith)) (ap sha256 (same_block (0 + k) (omega (arith, zero-add k))))

  pub same_zero : (k : ℕ) → k ≤ blocks l → some_zero l f k ≡ some_zero l g k
  unfolding some_zero
  same_zero zero h = refl
  same_zero (suc k) h =
      ap₂ (λ (x y : Bool). x || y) (same_zero k (omega arith)) (ap (λ (x : List ℕ). zero_entry (sha256 x)) (same_block k h))

-- ---- the pieces, as they are stored

pub difi_made : (at : ℕ) (s t u : List ℕ) → t ≡ sets s at (difi_magic ++ eights (0x44 ∷ 0x78 ∷ 0xBC ∷ 0x50 ∷ 0x10C ∷ 0x20 ∷ []))
    → u ≡ sets t (at + 0x38) (zeros 12) → u ≡ sets s at difi
unfolding eights field_bytes
difi_made at s t u p q = behind s t u at 0x38 (difi_magic ++ eights (0x44 ∷ 0x78 ∷ 0xBC ∷ 0x50 ∷ 0x10C ∷ 0x20 ∷ [])) (zeros 12) difi p q refl difi_is

pub disa_made : (n size at : ℕ) (s t u : List ℕ) → size ≡ partition_size n
    → t ≡ sets s at (disa_magic ++ eights (1 ∷ 0x200 ∷ 0x330 ∷ 0x12C ∷ 0 ∷ 0x12C ∷ 0 ∷ 0 ∷ 0x1000 ∷ size ∷ 0 ∷ 0 ∷ []))
    → u ≡ sets t (at + 0x68) (zeros 4) → u ≡ sets s at (disa_fields n)
unfolding eights field_bytes
disa_made n size at s t u e p q =
    behind s t u at 0x68 (disa_magic ++ eights (1 ∷ 0x200 ∷ 0x330 ∷ 0x12C ∷ 0 ∷ 0x12C ∷ 0 ∷ 0 ∷ 0x1000 ∷ size ∷ 0 ∷ 0 ∷ [])) (zeros 4) (disa_fields n) p q refl (disa_is n size e)

pub diff_made : (n size at : ℕ) (s t u : List ℕ) → size ≡ partition_size n
    → t ≡ sets s at (diff_magic ++ eights (0x200 ∷ 0x330 ∷ 0x12C ∷ 0x1000 ∷ size ∷ [])) → u ≡ sets t (at + 0x30) (zeros 4) → u ≡ sets s at (diff_fields n)
unfolding eights field_bytes
diff_made n size at s t u e p q =
    behind s t u at 0x30 (diff_magic ++ eights (0x200 ∷ 0x330 ∷ 0x12C ∷ 0x1000 ∷ size ∷ [])) (zeros 4) (diff_fields n) p q refl (diff_is n size e)

-- the header of each kind
pub header_disa : (kind : Kind) (n at : ℕ) (s t u v hash : List ℕ) → kind ≡ Disa → length hash ≡ 32 → t ≡ sets s at (disa_fields n)
    → u ≡ sets t (at + 0x6C) hash → v ≡ sets u (at + 0x8C) (zeros 0x74) → v ≡ sets s at (header_with kind n hash)
header_disa kind n at s t u v hash k m p q r =
    header_is at 0x6C 0x74 s t u v (disa_fields n) hash (im.length_disa n) m p q r ∙ ap (λ (x : Kind). sets s at (header_with x n hash)) (sym k)

pub header_diff : (kind : Kind) (n at : ℕ) (s t u v hash : List ℕ) → kind ≡ Diff → length hash ≡ 32 → t ≡ sets s at (diff_fields n)
    → u ≡ sets t (at + 0x34) hash → v ≡ sets u (at + 0x54) (zeros 0xAC) → v ≡ sets s at (header_with kind n hash)
header_diff kind n at s t u v hash k m p q r =
    header_is at 0x34 0xAC s t u v (diff_fields n) hash (im.length_diff n) m p q r ∙ ap (λ (x : Kind). sets s at (header_with x n hash)) (sym k)

-- ---- the hash levels

pub half_made : (n p : ℕ) → p ≡ place3 n → 0x1000 + p ≡ half_place n
unfolding half_place
half_made n p e = ap (λ (x : ℕ). 0x1000 + x) e

any_offset : (x y size log : ℕ) → blocks (record { offset = x; size = size; log = log }) ≡ blocks (record { offset = y; size = size; log = log })
unfolding blocks block_size
any_offset x y size log = refl

module _ (n : ℕ) (w : Sized n) where
  module _ (half a b c : ℕ) (eh : half ≡ half_place n) (ea : a ≡ h1 n) (eb : b ≡ h2 n) (ec : c ≡ h3 n) where
    pub room3 : (s : List ℕ) → s ≡ zeros (image_size n) → half + (a + b) + 32 * n ≤ length s
    room3 s e = omega (arith, ap length e, length-replicate {A = ℕ} (image_size n) 0, im.half_at n w)

    blocks_of3 : blocks (record { offset = a + b; size = c; log = 12 }) ≡ w.c
    blocks_of3 = ap (λ (x : ℕ). blocks (record { offset = a + b; size = x; log = 12 })) ec ∙ any_offset (a + b) (h1 n + h2 n) (h3 n) 12 ∙ im.blocks3 n w

    blocks_of2 : blocks (record { offset = a; size = b; log = 9 }) ≡ w.d
    blocks_of2 = ap (λ (x : ℕ). blocks (record { offset = a; size = x; log = 9 })) eb ∙ any_offset a (h1 n) (h2 n) 9 ∙ im.blocks2 n w

    pub room2 : (t : List ℕ) → length t ≡ image_size n
        → (half + (a + b) + c ≤ length t) × (12 ≤ 12) × (half + a + 32 * blocks (record { offset = a + b; size = c; log = 12 }) ≤ half + (a + b)) × (length t ≤ 0x4000000)
    room2 t e = (omega (arith, im.half_at n w), omega arith, omega (arith, blocks_of3), omega arith)

    pub room1 : (t : List ℕ) → length t ≡ image_size n
        → (half + a + b ≤ length t) × (9 ≤ 12) × (half + 32 * blocks (record { offset = a; size = b; log = 9 }) ≤ half + a) × (length t ≤ 0x4000000)
    room1 t e = (omega (arith, im.half_at n w), omega arith, omega (arith, blocks_of2), omega arith)

  -- each level is what the definition says, whatever list stands below it
  module _ (s t u v : List ℕ) (ps : s ≡ zeros (image_size n)) (pt : t ≡ sets s (half_place n + (h1 n + h2 n)) (hashes3 n))
      (pu : u ≡ sets t (half_place n + h1 n) (digests (ivfc3 n) (bytes_from t (half_place n + (h1 n + h2 n))) 0 (blocks (ivfc3 n))))
      (pv : v ≡ sets u (half_place n) (digests (ivfc2 n) (bytes_from u (half_place n + h1 n)) 0 (blocks (ivfc2 n)))) where
    length_s : length s ≡ image_size n
    length_s = ap length ps ∙ length-replicate (image_size n) 0

    length_t : length t ≡ image_size n
    length_t = ap length pt ∙ length-sets s (half_place n + (h1 n + h2 n)) (hashes3 n) ∙ length_s

    byte3_at : (y : ℕ) → y < h3 n → get_or t (half_place n + (h1 n + h2 n) + y) 0 ≡ byte3 n y
    byte3_at y h =
        ap (λ (x : List ℕ). get_or x (half_place n + (h1 n + h2 n) + y) 0) pt
        ∙ sets_in s (half_place n + (h1 n + h2 n)) (hashes3 n) y (omega (arith, im.half_at n w, im.length3 n w, length_s)) (omega (arith, im.length3 n w))

    u_is : u ≡ sets t (half_place n + h1 n) (hashes2 n)
    unfolding hashes2
    u_is = pu ∙ ap (λ (l : List ℕ). sets t (half_place n + h1 n) l) (same_digests (ivfc3 n) _ (byte3 n) byte3_at (blocks (ivfc3 n)) (omega arith))

    byte2_at : (y : ℕ) → y < h2 n → get_or u (half_place n + h1 n + y) 0 ≡ byte2 n y
    byte2_at y h =
        ap (λ (x : List ℕ). get_or x (half_place n + h1 n + y) 0) u_is
        ∙ sets_in t (half_place n + h1 n) (hashes2 n) y (omega (arith, im.half_at n w, im.length2 n w, length_t)) (omega (arith, im.length2 n w))

    v_is : v ≡ sets u (half_place n) (hashes1 n)
    unfolding hashes1
    v_is = pv ∙ ap (λ (l : List ℕ). sets u (half_place n) l) (same_digests (ivfc2 n) _ (byte2 n) byte2_at (blocks (ivfc2 n)) (omega arith))

    pub hashed_made : v ≡ hashed n
    unfolding hashed
    hashed_made =
        v_is ∙ ap₂ (λ (x : ℕ) (l : List ℕ). sets l x (hashes1 n)) (sym (add-zero (half_place n)))
        (u_is ∙ ap (λ (l : List ℕ). sets l (half_place n + h1 n) (hashes2 n)) (pt ∙ ap (λ (l : List ℕ). sets l (half_place n + (h1 n + h2 n)) (hashes3 n)) ps))

    pub above_made : (p q r : Bool) → p ≡ some_zero (ivfc4 n) byte4 (blocks (ivfc4 n))
        → q ≡ some_zero (ivfc3 n) (bytes_from t (half_place n + (h1 n + h2 n))) (blocks (ivfc3 n))
        → r ≡ some_zero (ivfc2 n) (bytes_from u (half_place n + h1 n)) (blocks (ivfc2 n)) → p || q || r ≡ zero_hashes n
    unfolding zero_hashes
    above_made p q r a b c =
        ap₂ (λ (x y : Bool). x || y)
        (ap₂ (λ (x y : Bool). x || y) a (b ∙ same_zero (ivfc3 n) _ (byte3 n) byte3_at (blocks (ivfc3 n)) (omega arith)))
        (c ∙ same_zero (ivfc2 n) _ (byte2 n) byte2_at (blocks (ivfc2 n)) (omega arith))

  -- the same with the code's numbers
  pub enter_made : (half a b c : ℕ) → half ≡ half_place n → a ≡ h1 n → b ≡ h2 n → c ≡ h3 n → (s t u v : List ℕ) (p q r : Bool)
      → s ≡ zeros (image_size n) → t ≡ sets s (half + (a + b)) (hashes3 n)
      → u ≡ sets t (half + a) (digests (record { offset = a + b; size = c; log = 12 }) (bytes_from t (half + (a + b))) 0 (blocks (record { offset = a + b; size = c; log = 12 })))
      → v ≡ sets u half (digests (record { offset = a; size = b; log = 9 }) (bytes_from u (half + a)) 0 (blocks (record { offset = a; size = b; log = 9 })))
      → p ≡ some_zero (ivfc4 n) byte4 (blocks (ivfc4 n))
      → q ≡ some_zero (record { offset = a + b; size = c; log = 12 }) (bytes_from t (half + (a + b))) (blocks (record { offset = a + b; size = c; log = 12 }))
      → r ≡ some_zero (record { offset = a; size = b; log = 9 }) (bytes_from u (half + a)) (blocks (record { offset = a; size = b; log = 9 }))
      → (v ≡ hashed n) × (p || q || r ≡ zero_hashes n)
  enter_made half a b c eh ea eb ec s t u v p q r ps pt pu pv zp zq zr =
      let pt' : t ≡ sets s (half_place n + (h1 n + h2 n)) (hashes3 n) = rw (eh, ea, eb) at pt in
      let pu' : u ≡ sets t (half_place n + h1 n) (digests (ivfc3 n) (bytes_from t (half_place n + (h1 n + h2 n))) 0 (blocks (ivfc3 n))) =
      rw (eh, ea, eb, ec) at pu in
      let pv' : v ≡ sets u (half_place n) (digests (ivfc2 n) (bytes_from u (half_place n + h1 n)) 0 (blocks (ivfc2 n))) =
      rw (eh, ea, eb) at pv in (
        hashed_made s t u v ps pt' pu' pv',
        above_made s t u v ps pt' pu' pv' p q r zp (rw (eh, ea, eb, ec) at zq) (rw (eh, ea, eb) at zr),
      )
