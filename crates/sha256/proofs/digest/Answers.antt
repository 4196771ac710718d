-- `digest`: the whole blocks, then the tail and the padding.
use mathlib.Core.Path.{ap, ◌∙◌}
use mathlib.Core.List.{List}
use Prim.Native.Nat.{ℕ, ◌/◌}
use lib.ListN.{length}
use Rattle.sha256.specs.Sha256.{hashed}
use Rattle.sha256.proofs.Padding.{all_done}
use Rattle.sha256.proofs.digest.Goals as goal

pub returns : goal.returns
returns c =
    let m = c.args.message.now in
    all_done m _ _ (c.hash_blocks-hash.ensures ∙ ap (λ (H : List ℕ). hashed H m (length m / 64)) c.initial.ensures)
    c.finish.ensures
