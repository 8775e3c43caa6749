use Rattle.conn_parts.proofs.Appends.{
  numbered-append,
  items-append,
  sequences-append,
  sizes-append,
  credit-append,
  resumptions-append,
  numbered_start,
  items_start,
  sequences_start,
  sizes_start,
  credit_within,
  resumptions_within,
  counted-append,
}
use Rattle.conn_parts.proofs.laws.messages_add_up.Goals as goal

pub returns-clause-add : goal.returns-clause-add
returns-clause-add c = λ channel xs ys. record {
  numbered = numbered-append channel xs ys;
  items = items-append channel xs ys;
  sequences = sequences-append channel xs ys;
  sizes = sizes-append channel xs ys;
  credit = credit-append channel xs ys;
  resumptions = resumptions-append channel xs ys;
}

pub returns-clause-fronts : goal.returns-clause-fronts
returns-clause-fronts c = λ channel written read front. record {
  numbered = numbered_start channel written read front;
  items = items_start channel written read front;
  sequences = sequences_start channel written read front;
  sizes = sizes_start channel written read front;
  credit = credit_within channel written read front;
  resumptions = resumptions_within channel written read front;
}

pub returns-clause-numbers : goal.returns-clause-numbers
returns-clause-numbers c = counted-append
