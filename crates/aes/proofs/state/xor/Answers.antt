-- `xor`: each byte is a sum.
use mathlib.Core.Path.{◌≡◌, refl}
use lib.ListN.{get_or}
use Rattle.std.proofs.Common.{of_calls}
use Rattle.aes.specs.Field.{◌⊕◌}
use Rattle.aes.proofs.Built.{from_fn_block}
use Rattle.aes.proofs.state.xor.Goals as goal

pub returns : goal.returns
returns c =
    let a = c.args in
    from_fn_block _ (λ i. get_or a.a i 0 ⊕ get_or a.b i 0) (λ f. (f.0.now ≡ a.a) × (f.1.now ≡ a.b)) _ c.from_fn.result (λ p q i y e k. search of_calls) (refl, refl) c.from_fn.ensures.items
