-- Judgements: what is accepted, or why it is refused.

-- what is accepted, or why it is refused
pub data Judgement (R A : Type 0) : Type 0 where
  Accepted : A → Judgement R A
  Refused : R → Judgement R A
