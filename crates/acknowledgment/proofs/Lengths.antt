-- An AA has 64 bytes and a TX 153, whatever their numbers, because every part has its width.
use Rattle.std.proofs.Common.{◌≡◌, length, length-append, arith}
use Rattle.sequence.specs.declared.Inbound.{Inbound}
use Rattle.acknowledgment.specs.declared.Stamp.{Stamp}
use Rattle.acknowledgment.specs.declared.Acknowledged.{Acknowledged}
use Rattle.acknowledgment.specs.Frames.{aa_length, tx_length, aa_bytes, tx_bytes}
use Rattle.acknowledgment.proofs.MessageIds.{length_message}

module _ (s : Stamp) (l : length s.subscriber ≡ 4) (n : length s.connection ≡ 4) where
  pub length_aa : (a : Acknowledged) → length a.internal ≡ 16 → length a.time ≡ 6 → length a.original ≡ 6
      → length (aa_bytes s a) ≡ aa_length
  unfolding aa_bytes
  length_aa a i t o = simp (length-append, length_message) (omega arith)

  pub length_tx : (expected received : Inbound) → length (tx_bytes s expected received) ≡ tx_length
  unfolding tx_bytes
  length_tx expected received = simp length-append (omega arith)
