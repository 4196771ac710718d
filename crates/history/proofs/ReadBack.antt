-- The same rules read a write back: from the laws of update, through the checks that a write passes. Assumes nothing.
use Rattle.std.specs.Prelude.{Ok}
use mathlib.Core.Path.{◌≡◌, refl, sym, ap, ◌∙◌, subst}
use Prim.Native.Nat.{ℕ, ◌<◌}
use mathlib.Core.Bool.{Bool, true, false, ◌&&◌, true≢false}
use mathlib.Core.List.{List, [], ◌∷◌}
use mathlib.Core.Logic.{inl, inr}
use lib.ListN.{length}
use lib.Dec.{eqb, ltb}
use borrow.Author.Tests.{eqb-true, ltb-true}
use Rattle.number.specs.declared.Level.{Level}
use Rattle.number.specs.Blocks.{blocks, touches}
use Rattle.number.specs.Bytes.{overlay}
use Rattle.number.proofs.FrameLaws.{keeps_more}
use Rattle.layout.specs.declared.Container.{Container}
use Rattle.layout.specs.declared.Refusal.TheVariants.{NoPartition}
use Rattle.layout.specs.Opening.{opened}
use Rattle.layout.proofs.GuaranteeLaws.{guarantees}
use Rattle.ivfc.specs.declared.View.{View}
use Rattle.ivfc.specs.Views.{content_of}
use Rattle.update.specs.Staged.{written_to}
use Rattle.update.specs.Rules.{WriteRules}
use Rattle.update.proofs.StagedLaws.{staged}
use Rattle.update.proofs.ImageLaws.{write_bytes, write_verified, write_held, write_plain}
use Rattle.views.specs.Places.{partitions, partition_of, view_in, committed_view, staged_view, space_of}
use Rattle.steps.specs.declared.Session.{Session}
use Rattle.steps.specs.Sessions.{current}
use Rattle.steps.specs.Calls.{After, unread, read_in, read_committed, read_staged}
use Rattle.steps.proofs.EnterLaws.{enters}
use Rattle.steps.proofs.WriteLaws.{write_rules}
use Rattle.views.specs.Versions.{Version, version_of}
use Rattle.views.specs.Protected.{ExternalByte, AgreesBut}
use Rattle.history.specs.Model.{read_of, Form, Commit, Accepted}
use Rattle.history.specs.Run.{State, perform, ruled, next}
use Rattle.history.specs.External.{InPlace, InPlaceOf, AlikeIn}
use Rattle.history.specs.ReadBack.{Spares, WritesInPlace, Leaves, Accepts, Drops, ReadBack}
use Rattle.history.proofs.Agreeing.{LeftBut, left_agrees, agrees_more}
use Rattle.history.proofs.CallCases.{Finished, written_by, ended_by_lem, landed_image, committed_by, opens_first}
use Rattle.history.proofs.CallLaws.{CommitLaws}
use Rattle.history.proofs.Currents.{staged_table_lem}
use Rattle.history.proofs.ReadLaws.{read_committed_lem, read_staged_lem}
use Rattle.history.proofs.Calls.{call_laws}
use Rattle.history.proofs.Outers.{place_outer, entries_stay}
use Rattle.history.proofs.InPlace.{shape, alike}
use Rattle.history.proofs.Mirroring.{event, in_list, untouched}
use Rattle.history.proofs.Alike.{view_level, committed_sized, same_of_alike}

-- what was not written in place stays of a committed view
module _ (image after : List ℕ) (c : Container) (o : opened image ≡ Ok c) (q place : ℕ) (bytes : List ℕ) (there : q < partitions c)
    (k : LeftBut (InPlace c q place (length bytes)) c image after) where
  kept : LeftBut (InPlaceOf c (event c q place bytes ∷ [])) c image after
  kept = keeps_more (λ i. elim [ inl f ↦ inl f | inr x ↦ inr (in_list c q place bytes i x) ]) k

  alike_in : (p b : ℕ) → p < partitions c → b < blocks (committed_view c p).level4
      → ((partition_of c p).difi.external && (eqb q p && touches (partition_of c p).ivfc.level4 place (length bytes) b)) ≡ false
      → AlikeIn b (version_of (committed_view c p) after) (version_of (committed_view c p) image)
  alike_in p b h l z = alike image after c (event c q place bytes ∷ []) o kept p h b l (untouched c q place bytes (partition_of c p).difi.external p b refl z)

  -- of a partition that is another one, or internal, every block
  whole : (p : ℕ) → p < partitions c → (q ≡ p → (partition_of c p).difi.external ≡ false) → version_of (committed_view c p) after ≡ version_of (committed_view c p) image
  whole p h n =
      same_of_alike (version_of (committed_view c p) after) (version_of (committed_view c p) image) (partition_of c p).ivfc.level4
      (shape image after c (event c q place bytes ∷ []) o kept p h) (committed_sized after c p)
      (λ b l. alike_in p b h (subst (λ (x : Level). b < blocks x) (sym (view_level c p)) l)
      (by (partition_of c p).difi.external (eqb q p) (touches (partition_of c p).ivfc.level4 place (length bytes) b) (λ e. n (eqb-true q p e))))
    where
      by : (x t u : Bool) → (t ≡ true → x ≡ false) → (x && (t && u)) ≡ false
      by false t u n = refl
      by true false u n = refl
      by true true u n = absurd (true≢false (n refl))

  part : (b : ℕ) → b < blocks (committed_view c q).level4 → touches (committed_view c q).level4 place (length bytes) b ≡ false
      → AlikeIn b (version_of (committed_view c q) after) (version_of (committed_view c q) image)
  part b l t = alike_in q b there l (by (partition_of c q).difi.external (eqb q q) (subst (λ (x : Level). touches x place (length bytes) b ≡ false) (view_level c q) t))
    where
      by : (x t : Bool) {u : Bool} → u ≡ false → (x && (t && u)) ≡ false
      by false t e = refl
      by true false e = refl
      by true true e = e

-- of an internal level 4 nothing is written in place
none_in_place : (c : Container) (q place n : ℕ) → (partition_of c q).difi.external ≡ false → (i : ℕ) → InPlace c q place n i → ⊥
unfolding InPlace ExternalByte
none_in_place c q place n e i (h, (x, r), w) = true≢false (sym x ∙ e)

-- an external one is read in the same place by both views
one_place : (c : Container) (q : ℕ) → (partition_of c q).difi.external ≡ true → (image : List ℕ) → content_of (committed_view c q) image 4 ≡ content_of (staged_view c q) image 4
unfolding content_of committed_view staged_view view_in
one_place c q e image = rw e

committed_laid : (c : Container) (q place : ℕ) (bytes image after : List ℕ) → (partition_of c q).difi.external ≡ true
    → ((y : ℕ) → y < (staged_view c q).level4.size → content_of (staged_view c q) after 4 y ≡ overlay (content_of (staged_view c q) image 4) place bytes y)
    → (y : ℕ) → y < (committed_view c q).level4.size → content_of (committed_view c q) after 4 y ≡ overlay (content_of (committed_view c q) image 4) place bytes y
unfolding committed_view staged_view view_in
committed_laid c q place bytes image after e laid y h = rw (one_place c q e after, one_place c q e image) (laid y h)

module _ (image : List ℕ) (session : Session) (c : Container) (o : opened image ≡ Ok c) (q place : ℕ) (bytes : List ℕ) (f : Finished image session c o q place bytes) where
  abbrev after : List ℕ
  after = written_to (staged_view c q) place bytes image

  asks : WriteRules (space_of c) (staged_view c q) image place bytes
  unfolding staged_view view_in
  asks = write_rules image c o q f.there place bytes f.allowed

  stored : LeftBut (InPlace c q place (length bytes)) c image after
  stored = (call_laws.write image c o q place bytes f.there f.allowed).stores

  agreed : AgreesBut (InPlace c q place (length bytes)) c image after
  agreed = left_agrees (InPlace c q place (length bytes)) image after c o stored

  laid_over_lem : (y : ℕ) → y < (staged_view c q).level4.size → content_of (staged_view c q) after 4 y ≡ overlay (content_of (staged_view c q) image 4) place bytes y
  laid_over_lem = write_bytes (space_of c) (staged_view c q) image place bytes asks

  spares_all : (partition_of c q).difi.external ≡ false → Spares c image after
  spares_all e = record {
    stores = agrees_more (InPlace c q place (length bytes)) (λ i. ⊥) c image after (none_in_place c q place (length bytes) e) agreed;
    committed = λ p h. whole image after c o q place bytes f.there stored p h (λ s. ap (λ (r : ℕ). (partition_of c r).difi.external) (sym s) ∙ e);
  }

  in_place : (partition_of c q).difi.external ≡ true → WritesInPlace c q place bytes image after
  in_place e = record {
    stores = agreed;
    laid = committed_laid c q place bytes image after e laid_over_lem;
    entries = entries_stay image after c (guarantees image c o) (InPlace c q place (length bytes)) (place_outer c q place (length bytes)) stored q f.there;
    untouched = part image after c o q place bytes f.there stored;
    others = λ p h n. whole image after c o q place bytes f.there stored p h (λ s. absurd (n s));
  }

  leaves : Leaves c q place bytes image after
  leaves = record {
    laid = laid_over_lem;
    digests = write_held (space_of c) (staged_view c q) image place bytes asks;
    plain = write_plain (staged_view c q) (staged asks.own).rules.hash image place bytes;
    others = (call_laws.write image c o q place bytes f.there f.allowed).others;
    internal = spares_all;
    external = in_place;
  }

-- ---- once it is committed

none_there : (view : Container → ℕ → View) (image : List ℕ) (q place : ℕ) (buffer : List ℕ) (c : Container) → ltb q (partitions c) ≡ false
    → read_in view image q place buffer (Ok c) ≡ unread buffer NoPartition
none_there view image q place buffer c e = rw e

module _ (image after : List ℕ) (session : Session) (c : Container) (o : opened image ≡ Ok c) (b : session.begun ≡ true)
    (k : current c image session ≡ true) (s : CommitLaws c image after) (q place : ℕ) (buffer : List ℕ) where
  commits_read : read_committed after q place buffer ≡ read_staged image session q place buffer
  unfolding read_committed read_staged
  commits_read = by (ltb q (partitions c)) refl
    where
      by : (t : Bool) → ltb q (partitions c) ≡ t → read_committed after q place buffer ≡ read_staged image session q place buffer
      by true e =
          let h = ltb-true q (partitions c) e in
          read_committed_lem after s.container s.opens q (rw s.count h) place buffer ∙ ap (λ (v : Version). read_of v place buffer) (s.version q h)
          ∙ sym (read_staged_lem image c o q h session b k place buffer)
      by false e =
          ap (read_in committed_view after q place buffer) s.opens
          ∙ none_there committed_view after q place buffer s.container (ap (ltb q) s.count ∙ e)
          ∙ sym (ap (read_in staged_view image q place buffer) (sym (enters image session (opened image) refl c o b k)) ∙ none_there staged_view image q place buffer c e)

commits : (form : Form) (st : State) → ruled (Commit form) st ≡ Accepted → (q place : ℕ) (buffer : List ℕ)
    → read_committed (next (Commit form) st).image q place buffer ≡ read_staged st.image st.session q place buffer
unfolding perform
commits form st e q place buffer =
    let (c, o) = opens_first form st e in
    let b = committed_by form st c o e in
    let s = call_laws.commit st.image c o (staged_table_lem c st.image st.session b.current) (landed_image form c st.image) (call_laws.units st.image c o form) in
    ap (λ (a : After). read_committed a.image q place buffer) b.after
    ∙ commits_read st.image (landed_image form c st.image) st.session c o b.begun b.current s q place buffer

pub read_back : ReadBack
read_back = record {
  accepted = λ image session c o q place bytes e.
      let w = written_by image session c o q place bytes e in
      let l = leaves image session c o q place bytes w.finish in
      subst (λ (a : After). Accepts c q place bytes image a.image session a.session) (sym w.after)
      (record {
        leaves = l;
        sound = w.sound;
        vouched = write_verified (space_of c) (staged_view c q) image place bytes (asks image session c o q place bytes w.finish) w.sound;
        session = refl;
      });
  dropped = λ image session c o q place bytes e.
      let w = ended_by_lem image session c o q place bytes e in
      subst (λ (a : After). Drops c q place bytes image a.image a.session) (sym w.after)
      (record { leaves = leaves image session c o q place bytes w.finish; zero = w.zero; session = refl });
  commits = commits;
}
