-- Demand 3: from the laws of the calls, and so for the calls. Assumes nothing.
use Rattle.layout.proofs.GuaranteeLaws.{guarantees}
use Rattle.views.proofs.ProtectedLaws.{protected_is_not_free}
use Rattle.history.specs.Model.{Did}
use Rattle.history.specs.Run.{ruled, next, after, events}
use Rattle.history.specs.External.{InPlaceBy, InPlaceOf, SomeExternal}
use Rattle.history.specs.Theorem.{Demand3}
use Rattle.history.proofs.CallCases.{unopened}
use Rattle.history.proofs.CallLaws.{CallLaws}
use Rattle.history.proofs.Following.{history}
use Rattle.history.proofs.Crashing.{spares, stores}
use Rattle.history.proofs.InPlace.{answers}
use Rattle.history.proofs.Agreeing.{agrees_left, left_agrees}
use Rattle.history.proofs.Outers.{list_stays}
use Rattle.history.proofs.Landing.{settled}
use Rattle.history.proofs.Eithers.{landed}
use Rattle.history.proofs.Progress.{progress}
use Rattle.history.proofs.Signing.{unit, signing}
use Rattle.history.proofs.Calls.{call_laws}

from_laws : CallLaws → Demand3
from_laws W = record {
  history = history W;
  crash = record {
    answers = λ image left c list o a. answers image left c list o (agrees_left (InPlaceOf c list) image left c o a);
    stores = λ st calls c o z. left_agrees (InPlaceOf c (events calls st)) st.image (after calls st).image c o (stores W st calls c o z);
  };
  sparing = record {
    opens = λ call st c n o. left_agrees (InPlaceBy c (Did call (ruled call st))) st.image (next call st).image c o (spares W call st c n o);
    unit = unit;
    refused = unopened;
    free = λ image c o i. protected_is_not_free image c (guarantees image c o) i;
    stays = λ image left c o a. list_stays image left c (guarantees image c o) (SomeExternal c) (λ i w. w) (agrees_left (SomeExternal c) image left c o a) o;
  };
  landing = record { landed = landed W; settled = settled };
  progress = progress W;
  signing = signing W;
}

pub demand3 : Demand3
demand3 = from_laws call_laws
