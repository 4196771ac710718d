-- The header's rules. Assumes nothing.
use mathlib.Core.Path.{◌≡◌, refl, sym, ap, ap₂, subst, ◌∙◌}
use mathlib.Core.Bool.{Bool, true, false, not, cond, ◌&&◌, true≢false}
use mathlib.Core.List.{List}
use Prim.Native.Nat.{ℕ, ◌+◌, ◌-◌, ◌*◌, ◌≤◌, ◌<◌}
use native.Mathlib.Omega.{arith}
use native.Mathlib.Nat.{pos_of_ne-zero}
use lib.Dec.{eqb, ltb}
use lib.ListN.{length, take}
use borrow.Author.Tests.{leb-true, eqb-false, lt-leb, lt-ltb, le-ltb}
use Rattle.std.specs.Prelude.{Result, Ok, Err}
use Rattle.names.specs.declared.EntryError.{EntryError}
use Rattle.names.specs.declared.SaveError.{SaveError}
use Rattle.names.specs.declared.SaveError.TheVariants as save
use Rattle.number.specs.Fields.{le32, le64}
use Rattle.number.specs.Bytes.{same_bytes}
use Rattle.number.specs.Ranges.{inside}
use Rattle.number.proofs.Tests.{leb_same, and_left, and_right}
use Rattle.names.specs.declared.Save.{Save}
use Rattle.names.specs.Entries.{read_at}
use Rattle.names.specs.Opening.{magic, header_of, table_place, save_of, hash_inside, table_inside, well_formed, read_then, entries_read, judged_header, open_save}
use Rattle.names.specs.Walks.{Listable, Searchable}

pub skip_is : (header : List ℕ) (field start block : ℕ) → start ≡ le32 header field → block ≡ le32 header 0x24 → table_place header field ≡ le64 header 0x58 + start * block
unfolding table_place
skip_is header field start block p q = ap₂ (λ (a b : ℕ). le64 header 0x58 + a * b) (sym p) (sym q)

-- a table lies in level 4 if what is left after the region's offset holds it
pub table_in : (header : List ℕ) (size field n region skip : ℕ) (r : Bool) → region ≡ le64 header 0x58 → table_place header field ≡ le64 header 0x58 + skip → region ≤ size
    → r ≡ inside skip n (size - region) → r ≡ table_inside header size field n
unfolding table_inside inside
table_in header size field n region skip r p q l e =
    e ∙ leb_same (skip + n) (size - region) (table_place header field + n) size (λ h. omega arith) (λ h. omega arith)

pub table_out : (header : List ℕ) (size field n region skip : ℕ) → region ≡ le64 header 0x58 → table_place header field ≡ le64 header 0x58 + skip → size < region
    → false ≡ table_inside header size field n
unfolding table_inside inside
table_out header size field n region skip p q l = sym (lt-leb (table_place header field + n) size (omega arith))

-- what a well-formed header gives
pub record Formed (header : List ℕ) (size : ℕ) : Type 0 where
  pub folders : table_place header 0x68 + 0x28 * (le32 header 0x70 + 2) ≤ size
  pub files : table_place header 0x78 + 0x30 * (le32 header 0x80 + 1) ≤ size
  pub hash : le64 header 0x38 + 4 * le32 header 0x40 ≤ size
  pub buckets : 0 < le32 header 0x40

parts : (a b c d e : Bool) → (a && (b && c)) && (d && e) ≡ true → (c ≡ true) × ((d ≡ true) × (e ≡ true))
parts true true c d e h = (and_left c (d && e) h, (and_left d e (and_right c (d && e) h), and_right d e (and_right c (d && e) h)))
parts true false c d e h = absurd (true≢false (sym h))
parts false b c d e h = absurd (true≢false (sym h))

hash_parts : (x y : Bool) → not x && y ≡ true → (x ≡ false) × (y ≡ true)
hash_parts false y h = (refl, h)
hash_parts true y h = absurd (true≢false (sym h))

pub formed : (header : List ℕ) (size : ℕ) → well_formed header size ≡ true → Formed header size
unfolding well_formed table_inside inside hash_inside
formed header size h =
    let p = parts (same_bytes (take 8 header) magic) (hash_inside header size 0x28) (hash_inside header size 0x38) (table_inside header size 0x68 (0x28 * (le32 header 0x70 + 2))) (table_inside header size 0x78 (0x30 * (le32 header 0x80 + 1))) h in
    let q = hash_parts (eqb (le32 header 0x40) 0) (inside (le64 header 0x38) (4 * le32 header 0x40) size) p.0 in
    record {
      folders = leb-true (table_place header 0x68 + 0x28 * (le32 header 0x70 + 2)) size p.1.0;
      files = leb-true (table_place header 0x78 + 0x30 * (le32 header 0x80 + 1)) size p.1.1;
      hash = leb-true (le64 header 0x38 + 4 * le32 header 0x40) size q.1;
      buckets = pos_of_ne-zero (eqb-false (le32 header 0x40) 0 q.0);
    }

-- ---- opening, step by step

then_valid : (r : Result ℕ EntryError) (o : Result Save SaveError) (s : Save) → read_then r o ≡ Ok s → o ≡ Ok s
then_valid (Ok at) o s h = h
then_valid (Err x) o s h = let z : ◌≡◌ {A = ℕ} 0 1 = cc in absurd (omega arith)

module _ (level4 : List ℕ) (stands : List Bool) (log size : ℕ) (sized : length level4 ≡ size) where
  pub judged_yes : (header : List ℕ) (w : Bool) (s : Save) → header ≡ header_of level4 → w ≡ well_formed header size → w ≡ true → s ≡ save_of header level4 log
      → entries_read stands s ≡ judged_header level4 stands log
  unfolding judged_header
  judged_yes header w s k h t e =
      ap (entries_read stands) (e ∙ ap (λ (x : List ℕ). save_of x level4 log) k)
      ∙ sym (ap (λ (b : Bool). cond b (entries_read stands (save_of (header_of level4) level4 log)) (Err save.NoSave)) (sym (h ∙ ap₂ well_formed k (sym sized)) ∙ t))

  pub judged_no : (header : List ℕ) (w : Bool) → header ≡ header_of level4 → w ≡ well_formed header size → w ≡ false → Err save.NoSave ≡ judged_header level4 stands log
  unfolding judged_header
  judged_no header w k h t =
      sym (ap (λ (b : Bool). cond b (entries_read stands (save_of (header_of level4) level4 log)) (Err save.NoSave)) (sym (h ∙ ap₂ well_formed k (sym sized)) ∙ t))

  pub open_short : size < 0x88 → Err save.NoSave ≡ open_save level4 stands log
  unfolding open_save
  open_short h = sym (ap (λ (t : Bool). cond t (Err save.NoSave) (read_then (read_at stands log 0 0x88) (judged_header level4 stands log))) (lt-ltb (length level4) 0x88 (omega (arith, sized))))

  -- the header is read: the answer is what follows from that
  pub open_long : (r a : Result ℕ EntryError) → 0x88 ≤ size → r ≡ read_at stands log 0 0x88 → r ≡ a → read_then a (judged_header level4 stands log) ≡ open_save level4 stands log
  unfolding open_save
  open_long r a h e q =
      ap (λ (x : Result ℕ EntryError). read_then x (judged_header level4 stands log)) (sym q ∙ e)
      ∙ sym (ap (λ (t : Bool). cond t (Err save.NoSave) (read_then (read_at stands log 0 0x88) (judged_header level4 stands log))) (le-ltb (length level4) 0x88 (omega (arith, sized))))

  -- an opened save has a well-formed header
  open_valid : (s : Save) → open_save level4 stands log ≡ Ok s → (well_formed (header_of level4) size ≡ true) × (save_of (header_of level4) level4 log ≡ s)
  unfolding open_save judged_header
  open_valid s h = long (ltb (length level4) 0x88) h
    where
      good : (b : Bool) → well_formed (header_of level4) (length level4) ≡ b → cond b (entries_read stands (save_of (header_of level4) level4 log)) (Err save.NoSave) ≡ Ok s
          → (well_formed (header_of level4) size ≡ true) × (save_of (header_of level4) level4 log ≡ s)
      good true e h =
          let q = then_valid (read_at stands log (table_place (header_of level4) 0x78) 0x30) (Ok (save_of (header_of level4) level4 log)) s
          (then_valid (read_at stands log (table_place (header_of level4) 0x68) 0x28) (read_then (read_at stands log (table_place (header_of level4) 0x78) 0x30) (Ok (save_of (header_of level4) level4 log))) s h) in
          (ap (well_formed (header_of level4)) (sym sized) ∙ e, cc)
      good false e h = let z : ◌≡◌ {A = ℕ} 0 1 = cc in absurd (omega arith)

      long : (b : Bool) → cond b (Err save.NoSave) (read_then (read_at stands log 0 0x88) (judged_header level4 stands log)) ≡ Ok s
          → (well_formed (header_of level4) size ≡ true) × (save_of (header_of level4) level4 log ≡ s)
      long true h = let z : ◌≡◌ {A = ℕ} 0 1 = cc in absurd (omega arith)
      long false h =
          good (well_formed (header_of level4) (length level4)) refl (then_valid (read_at stands log 0 0x88) (judged_header level4 stands log) s h)

  pub valid_listable : (s : Save) → open_save level4 stands log ≡ Ok s → size ≤ 0x2000000 → Listable s log size
  valid_listable s h n =
      let v = open_valid s h in
      let f = formed (header_of level4) size v.0 in
      subst (λ (x : Save). Listable x log size) v.1 (record { logs = refl; folders = f.folders; files = f.files; folder = omega arith; file = omega arith; small = n })

  pub valid_searchable : (s : Save) → open_save level4 stands log ≡ Ok s
      → Searchable s log size × (0 < s.buckets) × (s.hash + 4 * s.buckets ≤ size)
  valid_searchable s h =
      let v = open_valid s h in
      let f = formed (header_of level4) size v.0 in
      subst (λ (x : Save). Searchable x log size × (0 < x.buckets) × (x.hash + 4 * x.buckets ≤ size)) v.1
      (record { logs = refl; files = f.files; file = omega arith }, f.buckets, f.hash)

-- what a well-formed header's entries 0 ask
pub entries_ask : (header level4 : List ℕ) (log size : ℕ) (s : Save) → s ≡ save_of header level4 log → well_formed header size ≡ true
    → (s.log ≡ log) × (s.folders.place + 0x28 ≤ size) × (s.files.place + 0x30 ≤ size)
entries_ask header level4 log size s e w =
    let f = formed header size w in
    rw e (refl, omega (arith, f.folders), omega (arith, f.files))
