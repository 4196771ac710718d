-- `mix_columns`: each byte is mixed.
use mathlib.Core.Path.{◌≡◌, refl, ◌∙◌}
use lib.ListN.{get_or}
use Prim.Native.Nat.{ℕ, ◌+◌, ◌*◌, ◌/◌, ◌%◌}
use mathlib.Core.List.{List}
use Rattle.std.proofs.Common.{of_calls}
use Rattle.aes.specs.Field.{◌⊕◌, ◌•◌}
use Rattle.aes.specs.Aes.{MixColumns}
use Rattle.aes.proofs.Built.{from_fn_block}
use Rattle.aes.proofs.Places.{mixed_byte, mixed_byte_lem}
use Rattle.aes.proofs.state.mix_columns.Goals as goal

abbrev code : List ℕ → ℕ → ℕ
code s i =
    0x02 • get_or s i 0 ⊕ 0x03 • get_or s (i / 4 * 4 + (i + 1) % 4) 0 ⊕ get_or s (i / 4 * 4 + (i + 2) % 4) 0 ⊕ get_or s (i / 4 * 4 + (i + 3) % 4) 0

pub returns : goal.returns
unfolding MixColumns
returns c =
    let s = c.args.s in
    from_fn_block _ (mixed_byte s) (λ f. f.0.now ≡ s) _ c.from_fn.result
    (λ p q i y e k.
    let r : (y ≡ code s i) × (q.0.now ≡ s) = search of_calls in
    (r.0 ∙ mixed_byte_lem s i, r.1)) refl c.from_fn.ensures.items
