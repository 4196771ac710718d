use mathlib.Core.Path.{◌∙◌}
use mathlib.Core.List.{◌++◌}
use Prim.Native.Nat.{◌+◌}
use native.Mathlib.Omega.{arith}
use lib.ListN.{take, get_or, length-set}
use Rattle.sha256.proofs.Padding.{one_block}
use Rattle.sha256.proofs.Pieces.{one_more, fed_more, fed_full}
use Rattle.sha256.proofs.running.feed_bytes.Goals as goal
use Rattle.sha256.proofs.running.feed_bytes.Goals.{then-n-eq63, else-n-eq63}

pub loop-byte-preserved : goal.loop-byte-preserved
loop-byte-preserved c =
    let l = c.loop-byte in
    let p = c.args.piece.now in
    let k = l.byte-index in
    elim c.if-n-eq63.branch [
      | then-n-eq63 w ↦ rw (w.s-is, w.n-is) (
        omega arith,
        simp length-set l.invariant.1,
        λ h m e a.
            let i = l.invariant.2 h m e a in
            fed_full h l.s l.b (m ++ take k p) (m ++ take (k + 1) p) _ l.n (get_or p k 0) (omega arith)
            (one_more m p k (omega arith)) l.invariant.1 (w.hash_blocks-next.ensures ∙ one_block _ _ (simp length-set l.invariant.1)) i.0 i.1,
      )
      | else-n-eq63 w ↦ rw (w.s-is, w.n-is) (
        omega arith,
        simp length-set l.invariant.1,
        λ h m e a.
            let i = l.invariant.2 h m e a in
            fed_more h l.s l.b (m ++ take k p) (m ++ take (k + 1) p) l.n (get_or p k 0) w.if-n-eq63.false (omega arith)
            (one_more m p k (omega arith)) l.invariant.1 i.0 i.1,
      )
    ]
