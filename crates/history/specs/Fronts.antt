-- "The 0x100 bytes at the front .. are never read or changed" (01): images that differ there alone answer alike and change alike, whatever bytes they
-- have and whatever session is handed in. A signed call has its signature there (02), and the bytes from 0x10 to 0xFF are nobody's. The call that makes
-- a blank image is none of these: it looks at no byte of what it is lent. The closed statement; proofs/FrontCalls.antt proves it.
use Rattle.std.specs.Prelude.{◌≡◌, ℕ, get_or}
use Rattle.number.specs.declared.Range.{Range}
use Rattle.number.specs.Frame.{Keeps}
use Rattle.dpfs.specs.Free.{InRange}
use Rattle.history.specs.Model.{Form, Plain, Signed, Open, ReadCommitted, ReadStaged, IsVerified, CountVerified, ListFaults, SigningBlock, SigningDigest, ListNames, FindFile, Call, Ask, Begin, Write, Commit, Abandon, Accepted, ruling}
use Rattle.history.specs.Run.{State, Performed, perform}
use Rattle.history.specs.Term.{reverted}

-- opening and commit have two forms, and every other call of a list is plain
abbrev pub form_of : Call → Form
form_of (Ask (Open form)) = form
form_of (Ask (ReadCommitted q place buffer)) = Plain
form_of (Ask (ReadStaged q place buffer)) = Plain
form_of (Ask (IsVerified q b)) = Plain
form_of (Ask (CountVerified q)) = Plain
form_of (Ask (ListFaults row)) = Plain
form_of (Ask (SigningBlock signer buffer)) = Plain
form_of (Ask (SigningDigest signer buffer)) = Plain
form_of (Ask (ListNames row)) = Plain
form_of (Ask (FindFile folder name)) = Plain
form_of Begin = Plain
form_of (Write q place bytes) = Plain
form_of (Commit form) = form
form_of Abandon = Plain

-- the bytes that a call of a form neither reads nor changes
abbrev pub ignored : Form → Range
ignored Plain = record { offset = 0; size = 0x100 }
ignored (Signed key signer) = record { offset = 0x10; size = 0xF0 }

-- two states with one session, whose images have one length and differ in a range alone
pub record DifferIn (r : Range) (st left : State) : Type 0 where
  pub session : left.session ≡ st.session
  pub images : Keeps (InRange r) st.image left.image

-- on two such states a call answers alike, buffers and rows too, and leaves two such states again; and it changes no byte of that range
pub record Ignores (r : Range) (call : State → Performed) : Type 0 where
  pub answers : (st left : State) → DifferIn r st left → (call left).answer ≡ (call st).answer
  pub changes : (st left : State) → DifferIn r st left → DifferIn r (call st).state (call left).state
  pub spares : (st : State) (i : ℕ) → InRange r i → get_or (call st).state.image i 0 ≡ get_or st.image i 0

-- nor is the old signature read by a commit or a revert that signs: on states that differ anywhere in the 0x100 bytes it answers alike, and once it is
-- accepted they have one signature
pub record Renews (form : Form) (call : State → Performed) : Type 0 where
  pub answers : (st left : State) → DifferIn (ignored Plain) st left → (call left).answer ≡ (call st).answer
  pub changes : (st left : State) → DifferIn (ignored Plain) st left → ruling (call st).answer ≡ Accepted
      → DifferIn (ignored form) (call st).state (call left).state

pub record FrontTheorem : Type 0 where
  pub calls : (c : Call) → Ignores (ignored (form_of c)) (perform c)
  pub reverts : (form : Form) → Ignores (ignored form) (reverted form)
  pub renewals : (form : Form) → Renews form (perform (Commit form)) × Renews form (reverted form)
