-- `walks::searching::find` meets its contract. Assumes nothing.
use Prim.Native.Nat.{ℕ, ◌+◌, ◌*◌}
use mathlib.Core.List.{[]}
use mathlib.Core.Path.{sym, ap, ◌∙◌}
use Rattle.std.proofs.lemmas.Result.{err_from_is_err_and}
use Rattle.number.specs.Fields.{le32}
use Rattle.views.specs.Versions.{version_of}
use Rattle.names.specs.Entries.{read_at}
use Rattle.names.specs.Searching.{chain}
use Rattle.names.proofs.EntryLaws.{read_place}
use Rattle.names.proofs.HashLaws.{found_is}
use Rattle.walks.proofs.searching.find.Goals as goal

pub returns-in_err-read_at : goal.returns-in_err-read_at
returns-in_err-read_at c =
    let p = err_from_is_err_and c.from_residual.result c.from_residual.ensures.1 in
    rw (p.1, p.2) (found_is c.args.s (version_of c.args.reader.view c.args.reader.image.now).bytes (version_of c.args.reader.view c.args.reader.image.now).verified c.args.parent c.args.name.now _ _ _ c.bucket_of.ensures.0 (c.read_at.ensures.0 ∙ ap (λ (l : ℕ). read_at (version_of c.args.reader.view c.args.reader.image.now).verified l (c.args.s.hash + 4 * c.bucket_of.result) 4) (sym c.requires.1.logs)) c.in_err-read_at.was)

pub returns : goal.returns
returns c =
    c.search_chain.ensures
    ∙ ap (λ (f : ℕ). chain c.args.s (version_of c.args.reader.view c.args.reader.image.now).bytes (version_of c.args.reader.view c.args.reader.image.now).verified c.args.parent c.args.name.now f []) (c.word_at-first.ensures ∙ ap (le32 (version_of c.args.reader.view c.args.reader.image.now).bytes) (sym (read_place _ _ _ _ _ (sym c.read_at.ensures.0 ∙ c.in_ok-read_at.was))))
    ∙ found_is c.args.s (version_of c.args.reader.view c.args.reader.image.now).bytes (version_of c.args.reader.view c.args.reader.image.now).verified c.args.parent c.args.name.now _ _ _ c.bucket_of.ensures.0 (c.read_at.ensures.0 ∙ ap (λ (l : ℕ). read_at (version_of c.args.reader.view c.args.reader.image.now).verified l (c.args.s.hash + 4 * c.bucket_of.result) 4) (sym c.requires.1.logs)) c.in_ok-read_at.was
