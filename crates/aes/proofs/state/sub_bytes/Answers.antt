-- `sub_bytes`: each byte is substituted.
use mathlib.Core.Path.{◌≡◌, refl}
use lib.ListN.{get_or}
use Rattle.std.proofs.Common.{of_calls}
use Rattle.aes.specs.Field.{sbox}
use Rattle.aes.specs.Aes.{SubBytes}
use Rattle.aes.proofs.Built.{from_fn_block}
use Rattle.aes.proofs.state.sub_bytes.Goals as goal

pub returns : goal.returns
unfolding SubBytes
returns c =
    let s = c.args.s in
    from_fn_block _ (λ i. sbox (get_or s i 0)) (λ f. (f.0.now ≡ c.table-sbox.result) × (f.1.now ≡ s)) _ c.from_fn.result (λ p q i y e k. search of_calls) (refl, refl) c.from_fn.ensures.items
