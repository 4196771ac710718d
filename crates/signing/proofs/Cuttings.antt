-- From a fresh start, any cutting of a message that is not too long is accepted, and gives the digest of the whole. Assumes nothing.
use mathlib.Core.Path.{◌≡◌, refl, sym, ap, ◌∙◌, subst}
use mathlib.Core.List.{List, [], ◌∷◌}
use Prim.Native.Nat.{ℕ, ◌+◌, ◌≤◌}
use native.Mathlib.Omega.{arith}
use lib.ListN.{length, length-append}
use Rattle.sha256.specs.Running.{longest, State, state_of, advanced, advanced_by, joined, digest_of}
use Rattle.sha256.specs.declared.running.Running.{Running}
use Rattle.sha256.proofs.States.{any_cutting}
use Rattle.std.specs.Prelude.{Ok}
use Rattle.layout.specs.Refusals.{Answers, outcome_says}
use Rattle.signing.specs.Digests.{AnyCutting, FedBy, after_feeding}

advanced_total : (s : State) (piece : List ℕ) → (advanced s piece).total ≡ s.total + length piece
unfolding advanced
advanced_total s piece = refl

-- the state after all pieces, and its total
fed_by : (before after : Running) (pieces : List (List ℕ)) → before.total + length (joined pieces) ≤ longest → FedBy before pieces after
    → (state_of after ≡ advanced_by (state_of before) pieces) × (after.total ≤ longest)
unfolding advanced_by joined FedBy
fed_by before after [] h e = (ap state_of e, subst (λ (z : Running). z.total ≤ longest) (sym e) (omega (arith, h)))
fed_by before after (piece ∷ pieces) h (fed, feeds, more) =
    let split = length-append piece (joined pieces) in
    let fits : before.total + length piece ≤ longest = omega (arith, h, split) in
    let (next, a, e) = feeds.accepted fits in
    let total : next.total ≡ before.total + length piece = ap (λ (s : State). s.total) e ∙ advanced_total (state_of before) piece in
    let own : FedBy next pieces after = subst (λ (z : Running). FedBy z pieces after) (ap (after_feeding before) a.case) more in
    let rest = fed_by next after pieces (omega (arith, h, total, split)) own in
    (rest.0 ∙ ap (λ (s : State). advanced_by s pieces) e, rest.1)

pub cuttings : AnyCutting
cuttings start last pieces end e h fed finishes =
    let zero : start.total ≡ 0 = ap (λ (s : State). s.total) e in
    let all = fed_by start last pieces (omega (arith, h, zero)) fed in
    subst (λ (d : List ℕ). Answers outcome_says end (Ok d))
    (ap digest_of (all.0 ∙ ap (λ (s : State). advanced_by s pieces) e) ∙ any_cutting pieces) (finishes.accepted all.1)
