-- `enter_table`: the table over the hash levels, the header over both. Assumes nothing.
use native.Mathlib.Omega.{arith}
use Rattle.blank.proofs.SizeLaws.{sized}
use Rattle.blank.proofs.MakeLaws.{length_s, room0, room_t, image_made, below_made}
use Rattle.blank.proofs.filling.enter_table.Goals as goal

pub digest_at-master-requires : goal.digest_at-master-requires
digest_at-master-requires c =
    room0 c.args.n (sized c.args.n c.requires.2 c.requires.3) c.args.half _ c.requires.1 c.hash1.ensures.0 c.args.image.now c.requires.0

pub put_table-requires : goal.put_table-requires
put_table-requires c =
    (omega (arith, length_s c.args.n (sized c.args.n c.requires.2 c.requires.3) c.args.half _ c.requires.1 c.hash1.ensures.0 c.args.image.now c.requires.0, sized c.args.n c.requires.2 c.requires.3), c.requires.3)

pub slice_bounds-digest-end : goal.slice_bounds-digest-end
slice_bounds-digest-end c =
    room_t c.args.n (sized c.args.n c.requires.2 c.requires.3) c.args.half _ c.requires.1 c.hash1.ensures.0 c.args.image.now c.requires.0 _ c.digest_at-master.ensures c.put_table.new.target c.put_table.ensures

pub put_header-requires : goal.put_header-requires
put_header-requires c =
    (omega (arith, room_t c.args.n (sized c.args.n c.requires.2 c.requires.3) c.args.half _ c.requires.1 c.hash1.ensures.0 c.args.image.now c.requires.0 _ c.digest_at-master.ensures c.put_table.new.target c.put_table.ensures), c.requires.3)

pub returns : goal.returns
returns c =
    record {
      image_after = image_made c.args.n (sized c.args.n c.requires.2 c.requires.3) c.args.half _ c.requires.1 c.hash1.ensures.0 c.args.image.now c.requires.0 _ c.digest_at-master.ensures c.put_table.new.target c.put_table.ensures _ c.digest-hash.ensures
          c.args.kind _ c.put_header.ensures;
      value = below_made c.args.n (sized c.args.n c.requires.2 c.requires.3) c.args.half _ c.requires.1 c.hash1.ensures.0 c.args.image.now c.requires.0 _ c.digest_at-master.ensures c.put_table.new.target c.put_table.ensures _ c.digest-hash.ensures
          _ _ c.zero_entry.ensures c.zero_entry-2.ensures;
    }
