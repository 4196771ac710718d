-- `make_blank` by its tests. Assumes nothing.
use mathlib.Core.Path.{sym, ◌∙◌}
use Rattle.layout.proofs.AnswerLaws.{answers_and}
use lib.ListN.{length}
use Rattle.blank.proofs.SizeLaws.{sized, allowed_range}
use Rattle.blank.proofs.MakeLaws.{wrong_count, wrong_length, refused, cleared, accepted, dropped}
use Rattle.blank.proofs.making.make_blank.Goals as goal

pub returns-then-not-blocks_allowed : goal.returns-then-not-blocks_allowed
returns-then-not-blocks_allowed c =
    let a = c.args in
    answers_and (refused a.image.now a.kind a.n (wrong_count (length a.image.now) a.n (sym c.blocks_allowed.ensures ∙ c.if-not-blocks_allowed.true)))

pub image_size-requires : goal.image_size-requires
image_size-requires c = (allowed_range c.args.n (sym c.blocks_allowed.ensures ∙ c.if-not-blocks_allowed.false)).1

pub returns-then-image-image_size : goal.returns-then-image-image_size
returns-then-image-image_size c =
    let a = c.args in
    answers_and (refused a.image.now a.kind a.n (wrong_length (length a.image.now) a.n _ c.image_size.ensures.0 c.if-image-image_size.true))

pub fill-requires : goal.fill-requires
fill-requires c =
    let a = c.args in
    let allowed = sym c.blocks_allowed.ensures ∙ c.if-not-blocks_allowed.false in
    let range = allowed_range a.n allowed in
    (cleared a.image.now a.kind a.n _ allowed c.image_size.ensures.0 c.if-image-image_size.false _ c.clear.ensures, range.0, range.1)

pub returns-then-fill : goal.returns-then-fill
returns-then-fill c =
    let a = c.args in
    let allowed = sym c.blocks_allowed.ensures ∙ c.if-not-blocks_allowed.false in
    let range = allowed_range a.n allowed in
    let f = c.fill.ensures in
    answers_and
    (dropped a.image.now a.kind a.n _ allowed c.image_size.ensures.0 c.if-image-image_size.false _ _ _ (sized a.n range.0 range.1)
    f.image_after c.clear-then-fill.ensures f.value c.if-fill.true)

pub returns-else-fill : goal.returns-else-fill
returns-else-fill c =
    let a = c.args in
    let allowed = sym c.blocks_allowed.ensures ∙ c.if-not-blocks_allowed.false in
    let f = c.fill.ensures in
    answers_and (accepted a.image.now a.kind a.n _ allowed c.image_size.ensures.0 c.if-image-image_size.false _ _ f.image_after f.value c.if-fill.false)
