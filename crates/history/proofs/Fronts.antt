-- An image that differs from another in the 0x100 bytes at the front alone: it opens alike, every view of it shows the same, and whatever only reads
-- answers alike. Assumes nothing.
use Rattle.std.specs.Prelude.{Result, Ok, Err}
use Rattle.layout.specs.declared.Refusal.{Refusal}
use mathlib.Core.Path.{◌≡◌, refl, ap, ◌∙◌, fun_ext}
use mathlib.Core.Bool.{Bool, true, false, ◌&&◌, ◌||◌, cond}
use mathlib.Core.List.{List}
use Prim.Native.Nat.{ℕ, zero, suc, ◌+◌, ◌≤◌, ◌<◌}
use native.Mathlib.Omega.{arith}
use lib.ListN.{length, get_or}
use lib.Dec.{ltb, eqb}
use borrow.Author.Tests.{ltb-true}
use Rattle.std.specs.Prelude.{Err}
use Rattle.number.specs.declared.Range.{Range}
use Rattle.number.specs.declared.Level.{Level}
use Rattle.number.specs.Ranges.{part}
use Rattle.number.specs.Bytes.{same_bytes}
use Rattle.number.specs.Frame.{Keeps}
use Rattle.number.proofs.FrameLaws.{keeps_refl, keeps_sets}
use Rattle.layout.specs.declared.Container.{Container}
use Rattle.layout.specs.declared.Refusal.TheVariants.{NoPartition, SessionState, Stale, NoSave}
use Rattle.layout.specs.Headers.{header_range, header_bytes}
use Rattle.layout.specs.Tables.{active, inactive}
use Rattle.layout.specs.Opening.{opened}
use Rattle.layout.specs.Guarantees.{Guarantees}
use Rattle.layout.proofs.FrameLaws.{agree_part, frame_parts}
use Rattle.layout.proofs.GuaranteeLaws.{guarantees}
use Rattle.layout.proofs.UnderLaws.{past_front}
use Rattle.signatures.specs.Signatures.{signature}
use Rattle.signatures.proofs.Laws.{length_signature}
use Rattle.dpfs.specs.declared.Tree.{Tree}
use Rattle.dpfs.specs.Bits.{bit_of}
use Rattle.dpfs.specs.Tree.{place, level_byte, select1, select2, select3, content}
use Rattle.dpfs.specs.Free.{InRange}
use Rattle.ivfc.specs.declared.View.{View}
use Rattle.ivfc.specs.Views.{level_of, inner_byte, content_of}
use Rattle.ivfc.specs.Verified as tree
use Rattle.views.specs.Places.{partitions, slot_of, partition_of, tree_in, master_in, tree_of, view_in, committed_view, staged_view}
use Rattle.views.specs.Versions.{Version, version_of}
use Rattle.views.proofs.PlaceLaws.{first_there, active_table, inactive_table}
use Rattle.steps.specs.declared.Session.{Session}
use Rattle.steps.specs.Reading.{read_from, read_outcome, verdict_on, count_in}
use Rattle.steps.specs.Sessions.{selector_flipped, for_each, staged_table, in_some_master, all_below, table_staged, current}
use Rattle.steps.specs.Calls.{while_begun, entered, unread, read_in, read_committed, read_staged, verified_in, is_verified, count_verified_in, count_verified}
use Rattle.steps.proofs.EnterLaws.{entered_is}
use Rattle.faults.specs.declared.Fault.{Fault}
use Rattle.faults.specs.Faults.{faults_of, faults_in, faults, count_faults_in, count_faults}
use Rattle.faults.proofs.LevelLaws.{faults_cong}
use Rattle.save.specs.Calls.{holds_save, unlisted, names_of, listed_in, list_names, file_of, sought_in, find_file}
use Rattle.history.specs.Model.{Form, Plain, Signed}
use Rattle.history.specs.Term.{stamped, SameAnswers}
use Rattle.history.specs.Fronts.{ignored}
use Rattle.history.proofs.Signing.{same_signed}
use Rattle.history.proofs.Tables.{place_of}

-- such an image
abbrev pub Fronted : (image left : List ℕ) → Type 0
Fronted image left = Keeps (InRange (ignored Plain)) image left

pub stamped_front : (form : Form) (header image : List ℕ) → Fronted image (stamped form header image)
stamped_front Plain header image = keeps_refl _ _
stamped_front (Signed key signer) header image =
    let n = length_signature key signer header in
    keeps_sets (InRange (ignored Plain)) image 0 (signature key signer header) (λ i h. (omega arith, omega arith))

-- ---- places past the front

pub record TreePast (tree : Tree) : Type 0 where
  pub level1 : 0x100 ≤ (tree).level1.offset
  pub level2 : 0x100 ≤ (tree).level2.offset
  pub level3 : 0x100 ≤ (tree).level3.offset

pub record Past (view : View) : Type 0 where
  pub tree : TreePast view.tree
  pub master : 0x100 ≤ view.master.offset
  pub outside : 0x100 ≤ view.outside

-- those of an image that opens
module _ (image : List ℕ) (c : Container) (g : Guarantees image c) (q : ℕ) (h : q < partitions c) where
  pub tree_past : TreePast (tree_of c q)
  unfolding tree_in
  tree_past = let p = (place_of image c g q h).slot.partition_front in record { level1 = omega arith; level2 = omega arith; level3 = omega arith }

  view_past : (table : Range) (half : Bool) → 0x200 ≤ table.offset → Past (view_in table (slot_of c q) (partition_of c q) half)
  unfolding view_in master_in
  view_past table half t =
      let p = (place_of image c g q h).slot.partition_front in
      record { tree = tree_past; master = omega arith; outside = omega arith }

  pub committed_past : Past (committed_view c q)
  unfolding committed_view
  committed_past = view_past (active c.header) (tree_of c q).live (active_table image c g).past

  pub staged_past : Past (staged_view c q)
  unfolding staged_view
  staged_past = view_past (inactive c.header) _ (inactive_table image c g).past

module _ (image left : List ℕ) (k : Fronted image left) where
  pub past : (i : ℕ) → 0x100 ≤ i → get_or left i 0 ≡ get_or image i 0
  past i h = k.bytes i (λ f. let (a, b) = f in omega arith)

  pub front_part : (r : Range) → 0x100 ≤ r.offset → part left r ≡ part image r
  front_part r h = agree_part left image r k.size (λ i a b. past i (omega arith))

  pub front_header : header_bytes left ≡ header_bytes image
  front_header = front_part header_range (omega arith)

  -- opening does not look there
  pub front_opened : opened left ≡ opened image
  front_opened =
      frame_parts left image k.size front_header
      (λ h e. let p = past_front (length left) (header_bytes left) h e in front_part (active h) (omega arith))

  -- nor does a level, a tree or a view
  pub front_level : (l : Level) (selection : ℕ → Bool) → 0x100 ≤ l.offset → level_byte l selection left ≡ level_byte l selection image
  unfolding level_byte place
  front_level l selection h = fun_ext (λ y. past _ (omega arith))

  module _ (tree : Tree) (p : TreePast tree) (half : Bool) where
    pub front_select2 : select2 tree left half ≡ select2 tree image half
    unfolding select2
    front_select2 = ap bit_of (front_level (tree).level1 (select1 half) p.level1)

    pub front_select3 : select3 tree left half ≡ select3 tree image half
    unfolding select3
    front_select3 =
        ap (λ (s : ℕ → Bool). bit_of (level_byte (tree).level2 s left)) front_select2
        ∙ ap bit_of (front_level (tree).level2 (select2 tree image half) p.level2)

    front_content : content tree left half ≡ content tree image half
    unfolding content
    front_content =
        ap (λ (s : ℕ → Bool). level_byte (tree).level3 s left) front_select3
        ∙ front_level (tree).level3 (select3 tree image half) p.level3

  module _ (view : View) (p : Past view) where
    inner : (l : Level) (y : ℕ) → inner_byte view left l y ≡ inner_byte view image l y
    unfolding inner_byte
    inner l y = ap (λ (f : ℕ → ℕ). f (l.offset + y)) (front_content view.tree p.tree view.half)

    pub front_seen : content_of view left ≡ content_of view image
    unfolding content_of
    front_seen = fun_ext (λ i. fun_ext (λ y. by i y))
      where
        by : (i y : ℕ) → content_of view left i y ≡ content_of view image i y
        by zero y = past _ (omega arith)
        by (suc zero) y = inner view.level1 y
        by (suc (suc zero)) y = inner view.level2 y
        by (suc (suc (suc zero))) y = inner view.level3 y
        by (suc (suc (suc (suc i)))) y = λ j. cond view.external (past (view.outside + y) (omega arith) j) (inner view.level4 y j)

    pub front_read : (x : ℕ) (buffer : List ℕ) → read_from view left x buffer ≡ read_from view image x buffer
    unfolding read_from read_outcome
    front_read x buffer = rw front_seen

    pub front_version : version_of view left ≡ version_of view image
    unfolding version_of
    front_version = rw front_seen

  -- ---- nor does what a session is judged by

  module _ (c : Container) (g : Guarantees image c) where
    pub front_table : staged_table c left ≡ staged_table c image
    unfolding staged_table
    front_table = let t = (active_table image c g).past in ap (for_each c (selector_flipped c)) (front_part (active c.header) (omega arith))

    pub front_current : (session : Session) → current c left session ≡ current c image session
    unfolding current table_staged
    front_current session =
        let t = (inactive_table image c g).past in
        λ j. same_bytes (front_header j) session.header
        && all_below (inactive c.header).size (λ (i : ℕ). in_some_master c i || eqb (past ((inactive c.header).offset + i) (omega arith) j) (get_or (front_table j) i 0))

  -- so a session enters it alike
  pub front_entered : (session : Session) → entered left session ≡ entered image session
  unfolding entered
  front_entered session = ap (while_begun left session) front_opened ∙ by (opened image) refl
    where
      by : (o : Result Container Refusal) → opened image ≡ o → while_begun left session o ≡ while_begun image session o
      by (Err r) e = refl
      by (Ok c) e = λ i. cond session.begun (cond (front_current c (guarantees image c e) session i) (Ok c) (Err Stale)) (Err SessionState)

  -- ---- so whatever only reads answers alike

  -- what asks for a partition that is there
  if_there : {A : Type 0} (n q : ℕ) (a b other : A) → (q < n → a ≡ b) → cond (ltb q n) a other ≡ cond (ltb q n) b other
  if_there n q a b other e = by (ltb q n) refl
    where
      by : (t : Bool) → ltb q n ≡ t → cond t a other ≡ cond t b other
      by true h = e (ltb-true q n h)
      by false h = refl

  module _ (q : ℕ) where
    read : (view : Container → ℕ → View) → ((c : Container) → Guarantees image c → q < partitions c → Past (view c q)) → (x : ℕ) (buffer : List ℕ) (o : Result Container Refusal)
        → ((c : Container) → o ≡ Ok c → opened image ≡ Ok c) → read_in view left q x buffer o ≡ read_in view image q x buffer o
    read view past x buffer (Err r) e = refl
    read view past x buffer (Ok c) e =
        if_there (partitions c) q _ _ (unread buffer NoPartition) (λ h. front_read (view c q) (past c (guarantees image c (e c refl)) h) x buffer)

    questions : (b : ℕ) (o : Result Container Refusal) → opened image ≡ o → verified_in left q b o ≡ verified_in image q b o
    unfolding verdict_on
    questions b (Err r) e = refl
    questions b (Ok c) e =
        if_there (partitions c) q _ _ (Err NoPartition)
        (λ h. rw (front_seen (committed_view c q) (committed_past image c (guarantees image c e) q h)))

    counts : (o : Result Container Refusal) → opened image ≡ o → count_verified_in left q o ≡ count_verified_in image q o
    unfolding count_in
    counts (Err r) e = refl
    counts (Ok c) e =
        if_there (partitions c) q _ _ (Err NoPartition)
        (λ h. rw (front_seen (committed_view c q) (committed_past image c (guarantees image c e) q h)))

  pub front_staged : (session : Session) (q x : ℕ) (buffer : List ℕ) → read_staged left session q x buffer ≡ read_staged image session q x buffer
  unfolding read_staged
  front_staged session q x buffer =
      ap (read_in staged_view left q x buffer) (front_entered session)
      ∙ read q staged_view (λ c g h. staged_past image c g q h) x buffer (entered image session) (λ c e. (entered_is image session c e).0)

  same_faults : (c : Container) → opened image ≡ Ok c → faults_of c left ≡ faults_of c image
  same_faults c o =
      faults_cong c left image
      (λ q i b h m l. ap (λ (f : ℕ → ℕ → ℕ). tree.verified (level_of (committed_view c q)) f i b)
      (front_seen (committed_view c q) (committed_past image c (guarantees image c o) q h)))

  fault_count_lem : (o : Result Container Refusal) → opened image ≡ o → count_faults_in left o ≡ count_faults_in image o
  fault_count_lem (Err r) e = refl
  fault_count_lem (Ok c) e = ap (λ (l : List Fault). Ok (length l)) (same_faults c e)

  fault_list_lem : (o : Result Container Refusal) → opened image ≡ o → faults_in left o ≡ faults_in image o
  fault_list_lem (Err r) e = refl
  fault_list_lem (Ok c) e = same_faults c e

  -- a save stands in partition A
  first : (c : Container) → opened image ≡ Ok c → version_of (committed_view c 0) left ≡ version_of (committed_view c 0) image
  first c o =
      let g = guarantees image c o in
      front_version (committed_view c 0) (committed_past image c g 0 (first_there (length image) c.header g.header))

  names : (row : List ℕ) (o : Result Container Refusal) → opened image ≡ o → listed_in left row o ≡ listed_in image row o
  names row (Err r) e = refl
  names row (Ok c) e = ap (λ (v : Version). cond (holds_save c) (names_of v row) (unlisted row NoSave)) (first c e)

  finds : (folder : ℕ) (name : List ℕ) (o : Result Container Refusal) → opened image ≡ o → sought_in left folder name o ≡ sought_in image folder name o
  finds folder name (Err r) e = refl
  finds folder name (Ok c) e = ap (λ (v : Version). cond (holds_save c) (file_of v folder name) (Err NoSave)) (first c e)

  pub front_answers : SameAnswers image left
  unfolding read_committed is_verified count_verified count_faults faults list_names find_file
  front_answers = record {
    opening = front_opened;
    reads = λ q x buffer. ap (read_in committed_view left q x buffer) front_opened ∙ read q committed_view (λ c g h. committed_past image c g q h) x buffer (opened image) (λ c e. e);
    questions = λ q b. ap (verified_in left q b) front_opened ∙ questions q b (opened image) refl;
    counts = λ q. ap (count_verified_in left q) front_opened ∙ counts q (opened image) refl;
    fault_count = ap (count_faults_in left) front_opened ∙ fault_count_lem (opened image) refl;
    fault_list = ap (faults_in left) front_opened ∙ fault_list_lem (opened image) refl;
    signing = same_signed image left k.size front_header;
    names = λ row. ap (listed_in left row) front_opened ∙ names row (opened image) refl;
    finds = λ folder name. ap (sought_in left folder name) front_opened ∙ finds folder name (opened image) refl;
  }
