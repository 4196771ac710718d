-- Power failure, from the laws of the calls: what an image that is left answers, and which bytes the calls store to. Assumes nothing else.
use Rattle.std.specs.Prelude.{Ok}
use mathlib.Core.Path.{◌≡◌, refl, sym, ap, ◌∙◌, subst}
use mathlib.Core.List.{List, [], ◌∷◌}
use mathlib.Core.Logic.{inl, inr}
use mathlib.Core.Option.{some}
use Prim.Native.Nat.{ℕ}
use native.Mathlib.Omega.{arith}
use lib.ListN.{length}
use borrow.Author.Tests.{eq-eqb}
use Rattle.number.proofs.FrameLaws.{keeps_refl, keeps_trans, keeps_more}
use Rattle.layout.specs.declared.Container.{Container}
use Rattle.layout.specs.Opening.{opened}
use Rattle.steps.specs.Sessions.{begun_image}
use Rattle.steps.specs.Calls.{After}
use Rattle.history.specs.Model.{Form, Call, Ask, Begin, Write, Commit, Abandon, Ruling, Accepted, Refused, Dropped, Did, Event}
use Rattle.history.specs.Run.{State, perform, ruled, next, after, events, commits, commit_of, put_by}
use Rattle.history.proofs.CallCases.{refused, begun_by, written_by, ended_by_lem, is_write, lasts}
use Rattle.layout.proofs.GuaranteeLaws.{guarantees}
use Rattle.history.specs.External.{stored_by, InPlace, InPlaceBy, InPlaceOf}
use Rattle.history.proofs.Agreeing.{LeftBut, left_more}
use Rattle.history.proofs.CallLaws.{CallLaws}
use Rattle.history.proofs.Outers.{Outer, still_opens, free_stays}

-- what a write puts in place is what its event says, accepted or dropped
in_event : (c : Container) (q place : ℕ) (bytes : List ℕ) (r : Ruling)
    → stored_by q (Did (Write q place bytes) r) ≡ put_by q (Did (Write q place bytes) Accepted) → (i : ℕ) → InPlace c q place (length bytes) i
    → InPlaceBy c (Did (Write q place bytes) r) i
in_event c q place bytes r s i w = (q, record { place = place; bytes = bytes }, s ∙ own, w)
  where
    own : put_by q (Did (Write q place bytes) Accepted) ≡ some (record { place = place; bytes = bytes })
    own = rw (eq-eqb q q refl)

pub by_outer : (c : Container) (e : Event) → Outer c (InPlaceBy c e)
unfolding InPlace
by_outer c e i (q, put, p, (h, x, r)) = (q, h, x)

module _ (W : CallLaws) where
  -- no call but commit stores to a byte that is neither free nor written in place
  spares_ruled : (call : Call) (r : Ruling) (st : State) (c : Container) → ruled call st ≡ r → ((form : Form) → call ≡ Commit form → ⊥) → opened st.image ≡ Ok c
      → LeftBut (InPlaceBy c (Did call r)) c st.image (next call st).image
  unfolding perform
  spares_ruled call Refused st c e h o = subst (λ (s : State). LeftBut (InPlaceBy c (Did call Refused)) c st.image s.image) (sym (refused call st e)) (keeps_refl _ _)
  spares_ruled (Ask query) Accepted st c e h o = keeps_refl _ _
  spares_ruled Begin Accepted st c e h o =
      subst (λ (a : After). LeftBut (InPlaceBy c (Did Begin Accepted)) c st.image a.image) (sym (begun_by st.image st.session c o e).after)
      (left_more (InPlaceBy c (Did Begin Accepted)) c st.image (begun_image c st.image) (W.begin st.image c o).stores)
  spares_ruled (Write q place bytes) Accepted st c e h o =
      let b = written_by st.image st.session c o q place bytes e in
      subst (λ (a : After). LeftBut (InPlaceBy c (Did (Write q place bytes) Accepted)) c st.image a.image) (sym b.after)
      (keeps_more (λ i. elim [ inl f ↦ inl f | inr x ↦ inr (in_event c q place bytes Accepted refl i x) ]) (W.write st.image c o q place bytes b.finish.there b.finish.allowed).stores)
  spares_ruled (Commit form) Accepted st c e h o = absurd (h form refl)
  spares_ruled Abandon Accepted st c e h o = keeps_refl _ _
  spares_ruled (Write q place bytes) Dropped st c e h o =
      let b = ended_by_lem st.image st.session c o q place bytes e in
      subst (λ (a : After). LeftBut (InPlaceBy c (Did (Write q place bytes) Dropped)) c st.image a.image) (sym b.after)
      (keeps_more (λ i. elim [ inl f ↦ inl f | inr x ↦ inr (in_event c q place bytes Dropped refl i x) ]) (W.write st.image c o q place bytes b.finish.there b.finish.allowed).stores)
  spares_ruled (Ask query) Dropped st c e h o = absurd (lasts (Ask query) st refl e)
  spares_ruled Begin Dropped st c e h o = absurd (lasts Begin st refl e)
  spares_ruled (Commit form) Dropped st c e h o = absurd (h form refl)
  spares_ruled Abandon Dropped st c e h o = absurd (lasts Abandon st refl e)

  pub spares : (call : Call) (st : State) (c : Container) → ((form : Form) → call ≡ Commit form → ⊥) → opened st.image ≡ Ok c
      → LeftBut (InPlaceBy c (Did call (ruled call st))) c st.image (next call st).image
  spares call st c h o = spares_ruled call (ruled call st) st c refl h o

  -- nor does a call that is no accepted commit
  pub spares_event : (call : Call) (r : Ruling) (st : State) (c : Container) → ruled call st ≡ r → commit_of (Did call r) ≡ 0 → opened st.image ≡ Ok c
      → LeftBut (InPlaceBy c (Did call r)) c st.image (next call st).image
  spares_event call Refused st c e z o = subst (λ (s : State). LeftBut (InPlaceBy c (Did call Refused)) c st.image s.image) (sym (refused call st e)) (keeps_refl _ _)
  spares_event call Dropped st c e z o = spares_ruled call Dropped st c e (λ form q. lasts call st (ap is_write q) e) o
  spares_event call Accepted st c e z o =
      spares_ruled call Accepted st c e (λ form q. let y : commit_of (Did (Commit form) Accepted) ≡ 0 = subst (λ (x : Call). commit_of (Did x Accepted) ≡ 0) q z in omega arith) o

  -- so no list does before an accepted commit, from whatever session
  pub stores : (st : State) (calls : List Call) (c : Container) → opened st.image ≡ Ok c → commits (events calls st) ≡ 0
      → LeftBut (InPlaceOf c (events calls st)) c st.image (after calls st).image
  unfolding after events commits InPlaceOf
  stores st [] c o z = keeps_refl _ _
  stores st (call ∷ calls) c o z =
      let e = Did call (ruled call st) in
      let k = spares_event call (ruled call st) st c refl (omega arith) o in
      let g = guarantees st.image c o in
      let o' = still_opens st.image (next call st).image c g (InPlaceBy c e) (by_outer c e) k o in
      keeps_trans
      (λ i. elim [ inl f ↦ inl ((free_stays st.image (next call st).image c g (InPlaceBy c e) (by_outer c e) k i).0 f) | inr w ↦ inr (inr w) ])
      (keeps_more (λ i. elim [ inl f ↦ inl f | inr w ↦ inr (inl w) ]) k)
      (stores (next call st) calls c o' (omega arith))
