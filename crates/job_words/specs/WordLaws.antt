-- What follows of the definitions of words.
use Rattle.std.specs.Prelude.{◌≡◌, List, Some, Bool, false, nat_le}
use Rattle.job_words.specs.Options.{Word}
use Rattle.job_words.specs.Words.{Request, RunRequest, ReplayRequest, MakeRequest, request_of, wants_many}

-- whether more than one worker is asked for
abbrev pub asks_many : Request → Bool
asks_many (RunRequest given workers) = nat_le 2 workers
asks_many (ReplayRequest given schedule) = false
asks_many (MakeRequest number size) = false

-- Of accepted words, `wants_many` says whether they ask for a run with more than one worker.
abbrev pub ManyAreMany : Type 0
ManyAreMany = (words : List Word) (request : Request) → request_of words ≡ Some request → wants_many words ≡ asks_many request
