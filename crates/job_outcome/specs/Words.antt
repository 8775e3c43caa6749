-- By which words inputs and the ends of links tell of themselves: those of the traits that they are of. This is this project's own choice.
use Rattle.std.specs.Prelude.{ℕ, Bool, List, Option}
use Rattle.outside.specs.declared.links.LinkIn as LinkIn
use Rattle.outside.specs.declared.links.LinkOut as LinkOut
use Rattle.outside.specs.declared.source.Source as Source

-- What the ends of links tell: the name of the link, the bytes that were sent or got, whether it was finished or has ended, and how often a call
-- has failed. A name of an end that sends and one of an end that reads belong together where they are those of one link.
pub record LinkWords (O I L N : Type 0) : Type 1 where
  pub line : O → L
  pub sent : O → Option (List ℕ)
  pub finished : O → Option Bool
  pub of_out : O → ℕ
  pub end_line : I → N
  pub got : I → Option (List ℕ)
  pub ended : I → Option Bool
  pub of_in : I → ℕ
  pub belong : L → N → Type 0

-- And what inputs tell: the bytes that are left, and how often a read has failed.
pub record WorldWords (S O I L N : Type 0) : Type 1 where
  pub left : S → Option (List ℕ)
  pub faults : S → ℕ
  pub links : LinkWords O I L N
  pub open links use *

-- The words of ends whose traits have these members, and those of a source besides.
abbrev pub link_words : {O I L N : Type 0} → LinkOut.Ghosts O L → LinkIn.Ghosts I N → (L → N → Type 0) → LinkWords O I L N
link_words out input belong = record {
  line = out.line;
  sent = out.sent;
  finished = out.finished;
  of_out = out.faults;
  end_line = input.line;
  got = input.got;
  ended = input.ended;
  of_in = input.faults;
  belong = belong;
}

abbrev pub world_words : {S O I L N : Type 0} → Source.Ghosts S → LinkOut.Ghosts O L → LinkIn.Ghosts I N → (L → N → Type 0) → WorldWords S O I L N
world_words source out input belong = record { left = source.left; faults = source.faults; links = link_words out input belong }
