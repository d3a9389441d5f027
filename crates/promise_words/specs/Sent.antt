-- What a frame call on words sends (01, "What goes out"): its frames one after another, with nothing else of the output.
use Rattle.std.specs.Prelude.{ℕ, List, [], ◌++◌, Bool, cond}
use Rattle.acknowledgment.specs.Frames.{next_stamp, aa_bytes, tx_bytes}
use Rattle.book.specs.Reasons.{is_silent}
use Rattle.book.specs.Checks.{Call, arrived, answer_of}
use Rattle.book.specs.Step.{gap_at, before_aa, stamp_at, acknowledged, call_with}
use Rattle.image.specs.Images.{book_in}
use Rattle.calls_words.specs.Calls.{caller_of, callable}
use Rattle.promise_words.specs.Runs.{Stored}

abbrev pub tx_sent : Call → List ℕ
tx_sent c = tx_bytes (next_stamp (stamp_at c.book c.book.values.connection.outbound)) c.book.values.connection.line.expected (arrived c.body)

abbrev pub aa_sent : Call → List ℕ
aa_sent c = aa_bytes (next_stamp (stamp_at c.book (before_aa c.book c.body))) (acknowledged c.body (answer_of c) c.asked.caller)

-- a TX and an AA on a gap, else an AA
abbrev pub frames_on : Call → Bool → List ℕ
frames_on c gap = cond gap (tx_sent c ++ aa_sent c) (aa_sent c)

-- none after a silent refusal
unfoldable pub sent : Call → List ℕ
sent c = cond (is_silent (answer_of c)) [] (frames_on c (gap_at c.book c.body))

-- none where the call cannot be made
unfoldable pub sent_at : Stored → List ℕ → List ℕ → ℕ → List ℕ → List ℕ
sent_at s body time seed out = cond (callable s.words time) (sent (call_with (book_in s.words) s.pools body (caller_of time seed) out)) []
