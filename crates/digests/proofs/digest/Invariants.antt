-- `digests::digest` meets its contract. The loop's invariant: what is left gives the same digest. Assumes nothing.
use Rattle.std.proofs.Common.{◌≡◌, drop}
use Rattle.digests.specs.Digest.{digest_from, digest_of}
use Rattle.digests.proofs.digest.Given as goal

abbrev pub invariant-loop-byte : goal.invariant-loop-byte
invariant-loop-byte l = digest_from l.hash (drop l.byte-index l.file) ≡ digest_of l.file
