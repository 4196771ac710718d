-- The digests of messages of one length that stand one after another.
use Rattle.std.specs.Prelude.{List, [], ◌++◌, ℕ, zero, suc, ◌*◌, take, drop}
use Rattle.sha256.specs.Sha256.{sha256}

-- message i, of those of n bytes
abbrev pub message : List ℕ → (n i : ℕ) → List ℕ
message messages n i = take n (drop (i * n) messages)

-- the digests of the first messages, as many as count says, one after another
unfoldable pub digests : List ℕ → (n count : ℕ) → List ℕ
digests messages n zero = []
digests messages n (suc i) = digests messages n i ++ sha256 (message messages n i)
