-- What demand 3 said before writes in place, from what it says now. Assumes nothing.
use Rattle.std.specs.Prelude.{Ok}
use mathlib.Core.Path.{◌≡◌, sym, ◌∙◌, subst}
use mathlib.Core.Bool.{false, true≢false}
use mathlib.Core.List.{List, [], ◌∷◌, append-nil}
use mathlib.Core.Logic.{inl, inr}
use Prim.Native.Nat.{ℕ}
use Rattle.layout.specs.declared.Container.{Container}
use Rattle.layout.specs.Opening.{opened}
use Rattle.views.specs.Places.{partition_of}
use Rattle.views.specs.Protected.{ExternalByte, AgreesBut, Agrees}
use Rattle.history.specs.Model.{Plain, Event, Did}
use Rattle.history.specs.Run.{ruled, next, after, events}
use Rattle.history.specs.External.{InPlace, InPlaceBy, InPlaceOf, TouchedOf, Untouched}
use Rattle.history.specs.Theorem.{there_of, Demand3}
use Rattle.history.specs.Term.{SameAnswers}
use Rattle.history.specs.Former.{AllInternal, SameOf, Former}
use Rattle.history.proofs.Agreeing.{agrees_more}
use Rattle.history.proofs.Demand.{demand3}

-- ---- where every level 4 is internal, nothing is written in place

none_by : (c : Container) → AllInternal c → (e : Event) (i : ℕ) → InPlaceBy c e i → ⊥
unfolding InPlace ExternalByte
none_by c a e i (q, put, s, (h, (x, r), n)) = true≢false (sym x ∙ a q h)

none_of : (c : Container) → AllInternal c → (list : List Event) (i : ℕ) → InPlaceOf c list i → ⊥
unfolding InPlaceOf
none_of c a [] i w = w
none_of c a (e ∷ rest) i (inl w) = none_by c a e i w
none_of c a (e ∷ rest) i (inr w) = none_of c a rest i w

-- ---- which blocks are untouched: all if the list is empty, and all of an internal partition

by_nothing : (c : Container) (q b : ℕ) → Untouched c [] q b
unfolding TouchedOf
by_nothing c q b x t = t

of_internal : (c : Container) (list : List Event) (q b : ℕ) → (partition_of c q).difi.external ≡ false → Untouched c list q b
of_internal c list q b n x t = true≢false (sym x ∙ n)

-- ---- the theorems

module _ (D : Demand3) where
  answers : (image left : List ℕ) (c : Container) → opened image ≡ Ok c → Agrees c image left → SameAnswers image left
  answers image left c o k =
      let a = D.crash.answers image left c [] o (agrees_more (λ i. ⊥) (InPlaceOf c []) c image left (λ i. absurd) k) in
      record {
        opening = a.opening Plain;
        reads = λ q place buffer. a.reads q place buffer (λ b t. by_nothing c q b);
        questions = λ q b. a.questions q b (by_nothing c q b);
        counts = λ q. a.counts q (by_nothing c q);
        fault_count = a.fault_count (by_nothing c);
        fault_list = a.fault_list (by_nothing c);
        signing = a.signing;
        names = a.names;
        finds = a.finds;
      }

  beside : (image left : List ℕ) (c : Container) (list : List Event) → opened image ≡ Ok c → AgreesBut (InPlaceOf c list) c image left
      → (q : ℕ) → (partition_of c q).difi.external ≡ false → SameOf q image left
  beside image left c list o k q n =
      let a = D.crash.answers image left c list o k in
      record {
        reads = λ place buffer. a.reads q place buffer (λ b t. of_internal c list q b n);
        questions = λ b. a.questions q b (of_internal c list q b n);
        counts = a.counts q (λ b. of_internal c list q b n);
        faulty = λ f e. a.faulty f (λ _. subst (λ (p : ℕ). Untouched c list p f.block) (sym e) (of_internal c list q f.block n));
      }

  from_now : Former
  from_now = record {
    answers = answers;
    opens = λ image left c o k. (D.crash.answers image left c [] o (agrees_more (λ i. ⊥) (InPlaceOf c []) c image left (λ i. absurd) k)).opening;
    stores = λ st calls c o a z. agrees_more (InPlaceOf c (events calls st)) (λ i. ⊥) c st.image (after calls st).image (none_of c a (events calls st)) (D.crash.stores st calls c o z);
    spares = λ call st c h o a.
        agrees_more (InPlaceBy c (Did call (ruled call st))) (λ i. ⊥) c st.image (next call st).image (none_by c a (Did call (ruled call st))) (D.sparing.opens call st c h o);
    beside = beside;
    landed = λ p st start calls b n. (((D.history p st start calls).follows calls [] (sym (append-nil calls))).has, D.landing.landed p st (record { has = there_of start.has; idle = start.idle }) calls b n);
  }

pub former_theorem : Former
former_theorem = from_now demand3
