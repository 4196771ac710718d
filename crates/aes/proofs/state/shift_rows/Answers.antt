-- `shift_rows`: each byte is that of its place.
use mathlib.Core.Path.{◌≡◌, refl}
use lib.ListN.{get_or}
use Prim.Native.Nat.{◌*◌, ◌%◌}
use Rattle.std.proofs.Common.{of_calls}
use Rattle.aes.specs.Aes.{ShiftRows}
use Rattle.aes.proofs.Built.{from_fn_block}
use Rattle.aes.proofs.state.shift_rows.Goals as goal

pub returns : goal.returns
unfolding ShiftRows
returns c =
    let s = c.args.s in
    from_fn_block _ (λ i. get_or s (i * 5 % 16) 0) (λ f. f.0.now ≡ s) _ c.from_fn.result (λ p q i y e k. search of_calls) refl c.from_fn.ensures.items
