-- `load`: the first sixteen words of the schedule are the block's.
use Rattle.sha256.specs.Sha256.{words}
use mathlib.Core.Path.{◌∙◌}
use lib.Dec.{lit<}
use Rattle.sha256.proofs.Schedules.{block_word}
use Rattle.sha256.proofs.block.load.Goals as goal

pub returns : goal.returns
unfolding words
returns c =
    let b = c.args.block.now in
    record {
      w0 = c.word_at.ensures ∙ block_word b 0 (lit< tt);
      w1 = c.word_at-2.ensures ∙ block_word b 1 (lit< tt);
      w2 = c.word_at-3.ensures ∙ block_word b 2 (lit< tt);
      w3 = c.word_at-4.ensures ∙ block_word b 3 (lit< tt);
      w4 = c.word_at-5.ensures ∙ block_word b 4 (lit< tt);
      w5 = c.word_at-6.ensures ∙ block_word b 5 (lit< tt);
      w6 = c.word_at-7.ensures ∙ block_word b 6 (lit< tt);
      w7 = c.word_at-8.ensures ∙ block_word b 7 (lit< tt);
      w8 = c.word_at-9.ensures ∙ block_word b 8 (lit< tt);
      w9 = c.word_at-10.ensures ∙ block_word b 9 (lit< tt);
      w10 = c.word_at-11.ensures ∙ block_word b 10 (lit< tt);
      w11 = c.word_at-12.ensures ∙ block_word b 11 (lit< tt);
      w12 = c.word_at-13.ensures ∙ block_word b 12 (lit< tt);
      w13 = c.word_at-14.ensures ∙ block_word b 13 (lit< tt);
      w14 = c.word_at-15.ensures ∙ block_word b 14 (lit< tt);
      w15 = c.word_at-16.ensures ∙ block_word b 15 (lit< tt);
    }
