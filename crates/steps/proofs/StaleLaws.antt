-- When the inactive table is staged, by runs of equal bytes. Assumes nothing.
use Prim.Native.Nat.{ℕ, zero, suc, ◌+◌, ◌-◌, ◌≤◌, ◌<◌}
use mathlib.Core.Bool.{Bool, true, false, ◌&&◌, ◌||◌, and-true, and_assoc}
use mathlib.Core.List.{List}
use mathlib.Core.Logic.{◌≢◌, ◌⊎◌, inl, inr}
use mathlib.Core.Path.{◌≡◌, refl, sym, ap, ap₂, ◌∙◌}
use native.Mathlib.Decide.{ℕ_discrete}
use native.Mathlib.Nat.{add-zero}
use native.Mathlib.Omega.{arith}
use lib.Dec.{eqb, leb}
use lib.ListN.{length, get_or, take, drop, length-set}
use lib.Seq.{get_or-set_same, get_or-set_other}
use borrow.Author.Tests.{eq-eqb, ne_eqb, eqb-true, le-leb, lt-leb, lt-ltb, le-ltb}
use Rattle.number.specs.Ranges.{part, Apart}
use Rattle.number.specs.Bytes.{within, same_bytes}
use Rattle.number.proofs.ListLaws.{length_part, get_d_part, part_same, same_is, same_refl}
use Rattle.number.proofs.Tests.{left_fails, right_fails}
use Rattle.layout.specs.declared.Slot.{Slot}
use Rattle.layout.specs.declared.Partition.{Partition}
use Rattle.layout.specs.declared.Container.{Container}
use Rattle.layout.specs.Headers.{header_bytes}
use Rattle.layout.specs.Tables.{active, inactive}
use Rattle.layout.specs.Guarantees.{Guarantees}
use Rattle.views.specs.Places.{partitions, slot_of, partition_of}
use Rattle.views.proofs.PlaceLaws.{Present, present, active_table, inactive_table}
use Rattle.steps.specs.declared.Session.{Session}
use Rattle.steps.specs.Sessions.{selector_place, selector_flipped, staged_table, in_master, in_some_master, all_below, table_staged, current}
use Rattle.steps.specs.Rules.{HoldsMarks}
use Rattle.steps.proofs.BelowLaws.{below_all, all_below_lem}

-- ---- a test of each number below a bound

pub all_same : (P Q : ℕ → Bool) (n : ℕ) → ((i : ℕ) → i < n → P i ≡ Q i) → all_below n P ≡ all_below n Q
unfolding all_below
all_same P Q zero h = refl
all_same P Q (suc n) h = ap₂ ◌&&◌ (all_same P Q n (λ i k. h i (omega arith))) (h n (omega arith))

all_cut : (P : ℕ → Bool) (x y : ℕ) → all_below (x + y) P ≡ all_below x P && all_below y (λ k. P (x + k))
unfolding all_below
all_cut P x zero = ap (λ (n : ℕ). all_below n P) (add-zero x) ∙ sym (and-true (all_below x P))
all_cut P x (suc y) =
    let e : x + suc y ≡ suc (x + y) = omega arith in
    ap (λ (n : ℕ). all_below n P) e
    ∙ ap (λ (t : Bool). t && P (x + y)) (all_cut P x y)
    ∙ and_assoc (all_below x P) (all_below y (λ k. P (x + k))) (P (x + y))

-- ---- the same of the places from a to b

abbrev pub between : (ℕ → Bool) → (a b : ℕ) → Bool
between P a b = all_below (b - a) (λ (k : ℕ). P (a + k))

pub between_cut : (P : ℕ → Bool) (a m b : ℕ) → a ≤ m → m ≤ b → between P a b ≡ between P a m && between P m b
between_cut P a m b h k =
    let e : b - a ≡ (m - a) + (b - m) = omega arith in
    ap (λ (n : ℕ). all_below n (λ (k : ℕ). P (a + k))) e
    ∙ all_cut (λ (k : ℕ). P (a + k)) (m - a) (b - m)
    ∙ ap (λ (t : Bool). between P a m && t)
    (all_same (λ (k : ℕ). P (a + ((m - a) + k))) (λ (k : ℕ). P (m + k)) (b - m) (λ j l. let d : a + ((m - a) + j) ≡ m + j = omega arith in ap P d))

pub between_same : (P Q : ℕ → Bool) (a b : ℕ) → ((i : ℕ) → a ≤ i → i < b → P i ≡ Q i) → between P a b ≡ between Q a b
between_same P Q a b h = all_same (λ (k : ℕ). P (a + k)) (λ (k : ℕ). Q (a + k)) (b - a) (λ k l. h (a + k) (omega arith) (omega arith))

between_one : (P : ℕ → Bool) (a : ℕ) → between P a (a + 1) ≡ P a
unfolding all_below
between_one P a =
    let e : a + 1 - a ≡ 1 = omega arith in
    ap (λ (n : ℕ). all_below n (λ (k : ℕ). P (a + k))) e ∙ ap P (add-zero a)

-- from the front on is all of it
pub from_front : (P : ℕ → Bool) (n : ℕ) → between P 0 n ≡ all_below n P
from_front P n =
    let e : n - 0 ≡ n = omega arith in
    ap (λ (m : ℕ). all_below m (λ (k : ℕ). P (0 + k))) e ∙ all_same (λ (k : ℕ). P (0 + k)) P n (λ i h. let d : 0 + i ≡ i = omega arith in ap P d)

-- a run of equal bytes is compared as two parts
pub run_compared : (u t : List ℕ) (a b : ℕ) → a ≤ b → length u ≡ length t
    → same_bytes (take (b - a) (drop a u)) (take (b - a) (drop a t)) ≡ between (λ (i : ℕ). eqb (get_or u i 0) (get_or t i 0)) a b
run_compared u t a b h n =
    go (same_bytes (take (b - a) (drop a u)) (take (b - a) (drop a t))) refl (between (λ (i : ℕ). eqb (get_or u i 0) (get_or t i 0)) a b) refl
  where
    byte : same_bytes (take (b - a) (drop a u)) (take (b - a) (drop a t)) ≡ true → (k : ℕ) → k < b - a → eqb (get_or u (a + k) 0) (get_or t (a + k) 0) ≡ true
    byte e k l =
        eq-eqb (get_or u (a + k) 0) (get_or t (a + k) 0)
        (sym (get_d_part u a (b - a) k l) ∙ ap (λ (s : List ℕ). get_or s k 0) (same_is _ _ e) ∙ get_d_part t a (b - a) k l)

    equal : between (λ (i : ℕ). eqb (get_or u i 0) (get_or t i 0)) a b ≡ true → (i : ℕ) → a ≤ i → i < a + (b - a) → get_or u i 0 ≡ get_or t i 0
    equal e i p q =
        let d : a + (i - a) ≡ i = omega arith in
        eqb-true (get_or u i 0) (get_or t i 0)
        (ap (λ (j : ℕ). eqb (get_or u j 0) (get_or t j 0)) (sym d)
        ∙ all_below_lem (b - a) (λ (k : ℕ). eqb (get_or u (a + k) 0) (get_or t (a + k) 0)) e (i - a) (omega arith))

    go : (x : Bool) → same_bytes (take (b - a) (drop a u)) (take (b - a) (drop a t)) ≡ x
        → (y : Bool) → between (λ (i : ℕ). eqb (get_or u i 0) (get_or t i 0)) a b ≡ y → x ≡ y
    go true p y q = sym (below_all (b - a) _ (byte p)) ∙ q
    go false p false q = refl
    go false p true q =
        sym p ∙ ap (λ (s : List ℕ). same_bytes s (take (b - a) (drop a t))) (part_same u t a (b - a) n (equal q)) ∙ same_refl (take (b - a) (drop a t))

-- ---- the selector, and the master hash behind it, in a run

module _ (P Q : ℕ → Bool) (start s m e end : ℕ) (front : start ≤ s) (behind : s < m) (long : m ≤ e) (last : e ≤ end)
    (plain : (i : ℕ) → start ≤ i → i < end → i ≢ s → (i < m ⊎ e ≤ i) → Q i ≡ P i) (free : (i : ℕ) → m ≤ i → i < e → Q i ≡ true)
    (mark : Bool) (marked : mark ≡ Q s) where
  pub marks_passed : ((between P start s && mark) && between P (s + 1) m) && between P e end ≡ between Q start end
  marks_passed =
      ap₂ ◌&&◌
      (ap₂ ◌&&◌ (ap₂ ◌&&◌ (run start s (λ i h k. plain i h (omega arith) (λ d. omega arith) (inl (omega arith)))) (marked ∙ sym (between_one Q s)) ∙ sym (between_cut Q start s (s + 1) front (omega arith)))
      (run (s + 1) m (λ i h k. plain i (omega arith) (omega arith) (λ d. omega arith) (inl k)))
      ∙ sym (between_cut Q start (s + 1) m (omega arith) (omega arith))
      ∙ sym (and-true (between Q start m))
      ∙ ap (λ (t : Bool). between Q start m && t) (sym (below_all (e - m) (λ (k : ℕ). Q (m + k)) (λ k l. free (m + k) (omega arith) (omega arith))))
      ∙ sym (between_cut Q start m e (omega arith) long))
      (run e end (λ i h k. plain i (omega arith) k (λ d. omega arith) (inr h)))
      ∙ sym (between_cut Q start e end (omega arith) last)
    where
      run : (a b : ℕ) → ((i : ℕ) → a ≤ i → i < b → Q i ≡ P i) → between P a b ≡ between Q a b
      run a b h = between_same P Q a b (λ i k l. sym (h i k l))

-- ---- one partition's selector and master hash

-- byte i of the inactive table u is that of the active one t with partition q's selector flipped, or lies in its master hash
abbrev pub own_staged : Container → (q : ℕ) → (t u : List ℕ) → (i : ℕ) → Bool
own_staged c q t u i = in_master c q i || eqb (get_or u i 0) (get_or (selector_flipped c q t) i 0)

module _ (c : Container) (q i : ℕ) where
  pub master_in_lem : (slot_of c q).descriptor.offset + (partition_of c q).difi.master.offset ≤ i
      → i < (slot_of c q).descriptor.offset + (partition_of c q).difi.master.offset + (partition_of c q).difi.master.size → in_master c q i ≡ true
  unfolding in_master within
  master_in_lem h k = rw (le-leb ((slot_of c q).descriptor.offset + (partition_of c q).difi.master.offset) i h) (lt-ltb i _ k)

  pub master_out : (i < (slot_of c q).descriptor.offset + (partition_of c q).difi.master.offset)
      ⊎ ((slot_of c q).descriptor.offset + (partition_of c q).difi.master.offset + (partition_of c q).difi.master.size ≤ i) → in_master c q i ≡ false
  unfolding in_master within
  master_out (inl h) = left_fails (leb ((slot_of c q).descriptor.offset + (partition_of c q).difi.master.offset) i) _ (lt-leb _ i h)
  master_out (inr h) = right_fails (leb ((slot_of c q).descriptor.offset + (partition_of c q).difi.master.offset) i) _ (le-ltb i _ h)

module _ (c : Container) (q i : ℕ) (table : List ℕ) where
  pub flipped_here : selector_place (slot_of c q) ≡ i → i < length table → 1 - (partition_of c q).difi.selector ≡ get_or (selector_flipped c q table) i 0
  unfolding selector_flipped
  flipped_here e h = rw e (sym (get_or-set_same table i (1 - (partition_of c q).difi.selector) 0 h))

  pub flipped_elsewhere : selector_place (slot_of c q) ≢ i → get_or table i 0 ≡ get_or (selector_flipped c q table) i 0
  unfolding selector_flipped
  flipped_elsewhere e = sym (get_or-set_other table (selector_place (slot_of c q)) i (1 - (partition_of c q).difi.selector) 0 (λ p. e (sym p)))

  pub length_flipped : length (selector_flipped c q table) ≡ length table
  unfolding selector_flipped
  length_flipped = length-set table (selector_place (slot_of c q)) (1 - (partition_of c q).difi.selector)

-- where a partition's selector and master hash stand, by the slot and the fields as they were read
pub places_read : (c : Container) (q start end : ℕ) → HoldsMarks c q start end → (slot : Slot) → slot ≡ slot_of c q → (p : Partition) → p ≡ partition_of c q
    → (start ≤ selector_place slot) × (selector_place slot < slot.descriptor.offset + p.difi.master.offset)
    × (slot.descriptor.offset + p.difi.master.offset + p.difi.master.size ≤ end) × (p.difi.selector ≤ 1)
places_read c q start end h slot s p e = rw (s, e) (h.selector, h.behind, h.master, h.bit)

module _ (c : Container) (q start end : ℕ) (h : HoldsMarks c q start end) (t u : List ℕ) (inside : end ≤ length t) where
  own_plain : (i : ℕ) → i ≢ selector_place (slot_of c q)
      → (i < (slot_of c q).descriptor.offset + (partition_of c q).difi.master.offset ⊎ (slot_of c q).descriptor.offset + (partition_of c q).difi.master.offset + (partition_of c q).difi.master.size ≤ i)
      → own_staged c q t u i ≡ eqb (get_or u i 0) (get_or t i 0)
  own_plain i e o = rw (master_out c q i o) (ap (eqb (get_or u i 0)) (sym (flipped_elsewhere c q i t (λ p. e (sym p)))))

  own_free : (i : ℕ) → (slot_of c q).descriptor.offset + (partition_of c q).difi.master.offset ≤ i
      → i < (slot_of c q).descriptor.offset + (partition_of c q).difi.master.offset + (partition_of c q).difi.master.size → own_staged c q t u i ≡ true
  own_free i a b = rw (master_in_lem c q i a b)

  own_mark : eqb (get_or u (selector_place (slot_of c q)) 0) (1 - (partition_of c q).difi.selector) ≡ own_staged c q t u (selector_place (slot_of c q))
  own_mark =
      let k : selector_place (slot_of c q) < length t = omega (arith, h.behind, h.master) in
      rw (master_out c q (selector_place (slot_of c q)) (inl h.behind)) (ap (eqb (get_or u (selector_place (slot_of c q)) 0)) (flipped_here c q (selector_place (slot_of c q)) t refl k))

  -- as the code compares it, by what it read of the slot and of the partition
  pub runs_staged : (slot : Slot) → slot ≡ slot_of c q → (p : Partition) → p ≡ partition_of c q → (first second third : Bool) (byte : ℕ)
      → first ≡ between (λ (i : ℕ). eqb (get_or u i 0) (get_or t i 0)) start (slot.descriptor.offset + 0x39)
      → byte ≡ get_or u (slot.descriptor.offset + 0x39) 0
      → second ≡ between (λ (i : ℕ). eqb (get_or u i 0) (get_or t i 0)) (slot.descriptor.offset + 0x39 + 1) (slot.descriptor.offset + p.difi.master.offset)
      → third ≡ between (λ (i : ℕ). eqb (get_or u i 0) (get_or t i 0)) (slot.descriptor.offset + p.difi.master.offset + p.difi.master.size) end
      → ((first && eqb byte (1 - p.difi.selector)) && second) && third ≡ between (own_staged c q t u) start end
  runs_staged slot s p e first second third byte a b d f =
      let m : ℕ = (slot_of c q).descriptor.offset + (partition_of c q).difi.master.offset in
      ap₂ ◌&&◌ (ap₂ ◌&&◌ (ap₂ ◌&&◌
      (a ∙ ap (λ (x : Slot). between (λ (i : ℕ). eqb (get_or u i 0) (get_or t i 0)) start (x.descriptor.offset + 0x39)) s)
      (ap₂ (λ (x y : ℕ). eqb x (1 - y)) (b ∙ ap (λ (x : Slot). get_or u (x.descriptor.offset + 0x39) 0) s) (ap (λ (x : Partition). x.difi.selector) e)))
      (d ∙ ap₂ (λ (x : Slot) (y : Partition). between (λ (i : ℕ). eqb (get_or u i 0) (get_or t i 0)) (x.descriptor.offset + 0x39 + 1) (x.descriptor.offset + y.difi.master.offset)) s e))
      (f ∙ ap₂ (λ (x : Slot) (y : Partition). between (λ (i : ℕ). eqb (get_or u i 0) (get_or t i 0)) (x.descriptor.offset + y.difi.master.offset + y.difi.master.size) end) s e)
      ∙ marks_passed (λ (i : ℕ). eqb (get_or u i 0) (get_or t i 0)) (own_staged c q t u) start (selector_place (slot_of c q)) m
      (m + (partition_of c q).difi.master.size) end h.selector h.behind (omega arith) h.master
      (λ i x y z o. own_plain i z o) own_free
      (eqb (get_or u (selector_place (slot_of c q)) 0) (1 - (partition_of c q).difi.selector)) own_mark

-- ---- both partitions: the places of a table

module _ (image : List ℕ) (c : Container) (g : Guarantees image c) (q : ℕ) (k : q < partitions c) where
  there : Present image c q
  there = present image c g q k

  -- a run with the descriptor in it holds the marks
  pub marks_held : (start end : ℕ) → start ≤ (slot_of c q).descriptor.offset → (slot_of c q).descriptor.offset + (slot_of c q).descriptor.size ≤ end
      → HoldsMarks c q start end
  marks_held start end a b = record {
    selector = omega arith;
    behind = omega (arith, there.described.guarantees.master_difi);
    master = omega (arith, there.described.guarantees.master_inside);
    bit = there.described.guarantees.selector;
  }

  -- outside of the descriptor are no marks
  aside_master : (i : ℕ) → (i < (slot_of c q).descriptor.offset ⊎ (slot_of c q).descriptor.offset + (slot_of c q).descriptor.size ≤ i) → in_master c q i ≡ false
  aside_master i (inl h) = master_out c q i (inl (omega arith))
  aside_master i (inr h) = master_out c q i (inr (omega (arith, there.described.guarantees.master_inside)))

  aside_selector : (i : ℕ) → (i < (slot_of c q).descriptor.offset ⊎ (slot_of c q).descriptor.offset + (slot_of c q).descriptor.size ≤ i) → selector_place (slot_of c q) ≢ i
  aside_selector i (inl h) e = omega arith
  aside_selector i (inr h) e = omega (arith, there.described.guarantees.difi_inside)

module _ (image : List ℕ) (c : Container) where
  pub staged_two : partitions c ≡ 2 → staged_table c image ≡ selector_flipped c 1 (selector_flipped c 0 (part image (active c.header)))
  unfolding staged_table
  staged_two e = rw (eq-eqb (partitions c) 2 e)

  pub staged_one : partitions c ≢ 2 → staged_table c image ≡ selector_flipped c 0 (part image (active c.header))
  unfolding staged_table
  staged_one e = rw (ne_eqb (partitions c) 2 e)

module _ (c : Container) (i : ℕ) where
  masters_two : partitions c ≡ 2 → in_master c 0 i || in_master c 1 i ≡ in_some_master c i
  masters_two e = rw (eq-eqb (partitions c) 2 e)

  masters_one : partitions c ≢ 2 → in_master c 0 i ≡ in_some_master c i
  masters_one e = go (in_master c 0 i)
    where
      go : (t : Bool) → t ≡ t || (eqb (partitions c) 2 && in_master c 1 i)
      go true = refl
      go false = rw (ne_eqb (partitions c) 2 e)

-- byte i of the inactive table is the staged one, or lies in a master hash
abbrev pub staged_at : Container → List ℕ → (i : ℕ) → Bool
staged_at c image i = in_some_master c i || eqb (get_or image ((inactive c.header).offset + i) 0) (get_or (staged_table c image) i 0)

or_none : (a b : Bool) → b ≡ false → a ≡ a || b
or_none true b e = refl
or_none false b e = sym e

module _ (image : List ℕ) (c : Container) (g : Guarantees image c) where
  pub tables_same_size : (inactive c.header).size ≡ (active c.header).size
  tables_same_size = (inactive_table image c g).size ∙ sym (active_table image c g).size

  pub active_length : length (part image (active c.header)) ≡ (active c.header).size
  unfolding part
  active_length = length_part image (active c.header).offset (active c.header).size (active_table image c g).inside

  pub inactive_length : length (part image (inactive c.header)) ≡ (inactive c.header).size
  unfolding part
  inactive_length = length_part image (inactive c.header).offset (inactive c.header).size (inactive_table image c g).inside

  inactive_byte : (i : ℕ) → i < (inactive c.header).size → get_or (part image (inactive c.header)) i 0 ≡ get_or image ((inactive c.header).offset + i) 0
  unfolding part
  inactive_byte i h = get_d_part image (inactive c.header).offset (inactive c.header).size i h

  module _ (t u : List ℕ) (te : t ≡ part image (active c.header)) (ue : u ≡ part image (inactive c.header)) where
    pub t_length : length t ≡ (inactive c.header).size
    t_length = ap length te ∙ active_length ∙ sym tables_same_size

    pub u_length : length u ≡ length t
    u_length = ap length ue ∙ inactive_length ∙ sym t_length

    -- what a run's comparison asks: up to the table's end, and up to where another descriptor starts
    pub asks_last : (q : ℕ) → q < partitions c → (start n : ℕ) → n ≡ (inactive c.header).size → start ≤ (slot_of c q).descriptor.offset
        → HoldsMarks c q start n × (n ≤ length t) × (length u ≡ length t)
    asks_last q k start n e a = (
      marks_held image c g q k start n a (omega (arith, (present image c g q k).slot.descriptor_inside, (inactive_table image c g).size)),
      omega (arith, t_length),
      u_length,
    )

    pub asks_cut : (q o : ℕ) → q < partitions c → o < partitions c → (cut : ℕ) → cut ≡ (slot_of c o).descriptor.offset
        → (slot_of c q).descriptor.offset + (slot_of c q).descriptor.size ≤ (slot_of c o).descriptor.offset
        → HoldsMarks c q 0 cut × (cut ≤ length t) × (length u ≡ length t)
    asks_cut q o k l cut e a = (
      marks_held image c g q k 0 cut (omega arith) (omega arith),
      omega (arith, t_length, (present image c g o l).slot.descriptor_inside, (inactive_table image c g).size),
      u_length,
    )

    module _ (i : ℕ) (h : i < (inactive c.header).size) where
      compared : (q : ℕ) → in_master c q i ≡ in_some_master c i → get_or (selector_flipped c q t) i 0 ≡ get_or (staged_table c image) i 0 → own_staged c q t u i ≡ staged_at c image i
      compared q m f = ap₂ ◌||◌ m (ap₂ eqb (ap (λ (l : List ℕ). get_or l i 0) ue ∙ inactive_byte i h) f)

      one_place : partitions c ≢ 2 → own_staged c 0 t u i ≡ staged_at c image i
      one_place one =
          compared 0 (masters_one c i one)
          (ap (λ (l : List ℕ). get_or (selector_flipped c 0 l) i 0) te ∙ ap (λ (l : List ℕ). get_or l i 0) (sym (staged_one image c one)))

      both : partitions c ≡ 2 → get_or (selector_flipped c 1 (selector_flipped c 0 t)) i 0 ≡ get_or (staged_table c image) i 0
      both two =
          ap (λ (l : List ℕ). get_or (selector_flipped c 1 (selector_flipped c 0 l)) i 0) te ∙ ap (λ (l : List ℕ). get_or l i 0) (sym (staged_two image c two))

      first_place : partitions c ≡ 2 → in_master c 1 i ≡ false → selector_place (slot_of c 1) ≢ i → own_staged c 0 t u i ≡ staged_at c image i
      first_place two m s =
          compared 0 (or_none (in_master c 0 i) (in_master c 1 i) m ∙ masters_two c i two)
          (flipped_elsewhere c 1 i (selector_flipped c 0 t) s ∙ both two)

      second_place : partitions c ≡ 2 → in_master c 0 i ≡ false → selector_place (slot_of c 0) ≢ i → own_staged c 1 t u i ≡ staged_at c image i
      second_place two m s =
          compared 1 (ap (λ (b : Bool). b || in_master c 1 i) (sym m) ∙ masters_two c i two) (go (ℕ_discrete (selector_place (slot_of c 1)) i) ∙ both two)
        where
          k : i < length t
          k = omega (arith, t_length)

          go : Dec (selector_place (slot_of c 1) ≡ i) → get_or (selector_flipped c 1 t) i 0 ≡ get_or (selector_flipped c 1 (selector_flipped c 0 t)) i 0
          go (yes e) =
              sym (flipped_here c 1 i t e k) ∙ flipped_here c 1 i (selector_flipped c 0 t) e (omega (arith, length_flipped c 0 i t, k))
          go (no e) =
              sym (flipped_elsewhere c 1 i t e) ∙ flipped_elsewhere c 0 i t s ∙ flipped_elsewhere c 1 i (selector_flipped c 0 t) e

    pub one_staged : (n : ℕ) (r : Bool) → n ≡ (inactive c.header).size → partitions c ≢ 2 → r ≡ between (own_staged c 0 t u) 0 n → r ≡ table_staged c image
    unfolding table_staged
    one_staged n r e one s =
        s ∙ from_front (own_staged c 0 t u) n
        ∙ all_same (own_staged c 0 t u) (staged_at c image) n (λ i h. one_place i (omega arith) one)
        ∙ ap (λ (m : ℕ). all_below m (staged_at c image)) e

    -- two runs, each with one partition's marks
    cut_staged : (P R : ℕ → Bool) (n cut : ℕ) (first second : Bool) → n ≡ (inactive c.header).size → cut ≤ n
        → first ≡ between P 0 cut → second ≡ between R cut n
        → ((i : ℕ) → i < cut → i < n → P i ≡ staged_at c image i) → ((i : ℕ) → cut ≤ i → i < n → R i ≡ staged_at c image i)
        → first && second ≡ table_staged c image
    unfolding table_staged
    cut_staged P R n cut first second e k a b f s =
        ap₂ ◌&&◌ (a ∙ between_same P (staged_at c image) 0 cut (λ i x y. f i y (omega arith))) (b ∙ between_same R (staged_at c image) cut n s)
        ∙ sym (between_cut (staged_at c image) 0 cut n (omega arith) k)
        ∙ from_front (staged_at c image) n
        ∙ ap (λ (m : ℕ). all_below m (staged_at c image)) e

    module _ (two : partitions c ≡ 2) (n : ℕ) (e : n ≡ (inactive c.header).size) (first second : Bool) where
      a_there : 0 < partitions c
      a_there = omega arith

      b_there : 1 < partitions c
      b_there = omega arith

      pub a_first : (cut : ℕ) → cut ≡ (slot_of c 1).descriptor.offset → (slot_of c 0).descriptor.offset + (slot_of c 0).descriptor.size ≤ (slot_of c 1).descriptor.offset
          → first ≡ between (own_staged c 0 t u) 0 cut → second ≡ between (own_staged c 1 t u) cut n → first && second ≡ table_staged c image
      a_first cut d k a b =
          cut_staged (own_staged c 0 t u) (own_staged c 1 t u) n cut first second e
          (omega (arith, (present image c g 1 b_there).slot.descriptor_inside, (inactive_table image c g).size)) a b
          (λ i x y. first_place i (omega arith) two (aside_master image c g 1 b_there i (inl (omega arith))) (aside_selector image c g 1 b_there i (inl (omega arith))))
          (λ i x y. second_place i (omega arith) two (aside_master image c g 0 a_there i (inr (omega arith))) (aside_selector image c g 0 a_there i (inr (omega arith))))

      pub b_first : (cut : ℕ) → cut ≡ (slot_of c 0).descriptor.offset → (slot_of c 1).descriptor.offset + (slot_of c 1).descriptor.size ≤ (slot_of c 0).descriptor.offset
          → first ≡ between (own_staged c 1 t u) 0 cut → second ≡ between (own_staged c 0 t u) cut n → first && second ≡ table_staged c image
      b_first cut d k a b =
          cut_staged (own_staged c 1 t u) (own_staged c 0 t u) n cut first second e
          (omega (arith, (present image c g 0 a_there).slot.descriptor_inside, (inactive_table image c g).size)) a b
          (λ i x y. second_place i (omega arith) two (aside_master image c g 0 a_there i (inl (omega arith))) (aside_selector image c g 0 a_there i (inl (omega arith))))
          (λ i x y. first_place i (omega arith) two (aside_master image c g 1 b_there i (inr (omega arith))) (aside_selector image c g 1 b_there i (inr (omega arith))))

-- ---- which descriptor comes first

module _ (image : List ℕ) (c : Container) (g : Guarantees image c) (two : partitions c ≡ 2) where
  pub a_before : c.header.a.descriptor.offset < c.header.b.descriptor.offset
      → (slot_of c 0).descriptor.offset + (slot_of c 0).descriptor.size ≤ (slot_of c 1).descriptor.offset
  unfolding slot_of
  a_before h = go (g.header.descriptors_apart two)
    where
      go : Apart c.header.a.descriptor c.header.b.descriptor
          → c.header.a.descriptor.offset + c.header.a.descriptor.size ≤ c.header.b.descriptor.offset
      go (inl k) = k
      go (inr k) = absurd (omega arith)

  pub b_before : c.header.b.descriptor.offset ≤ c.header.a.descriptor.offset
      → (slot_of c 1).descriptor.offset + (slot_of c 1).descriptor.size ≤ (slot_of c 0).descriptor.offset
  unfolding slot_of
  b_before h = go (g.header.descriptors_apart two)
    where
      go : Apart c.header.a.descriptor c.header.b.descriptor
          → c.header.b.descriptor.offset + c.header.b.descriptor.size ≤ c.header.a.descriptor.offset
      go (inl k) = absurd (omega (arith, g.header.a.descriptor_some))
      go (inr k) = k

-- the header is compared first
module _ (image : List ℕ) (c : Container) (session : Session) (header : List ℕ) (h : header ≡ header_bytes image)
    (same : Bool) (s : same ≡ same_bytes header session.header) where
  remembered_is : same ≡ same_bytes (header_bytes image) session.header
  remembered_is = s ∙ ap (λ (l : List ℕ). same_bytes l session.header) h

  pub header_same : same ≡ true → (staged : Bool) → staged ≡ table_staged c image → staged ≡ current c image session
  unfolding current
  header_same e staged t = rw (sym remembered_is ∙ e) t

  pub header_differs : same ≡ false → same ≡ current c image session
  unfolding current
  header_differs e = e ∙ sym (left_fails (same_bytes (header_bytes image) session.header) (table_staged c image) (sym remembered_is ∙ e))
