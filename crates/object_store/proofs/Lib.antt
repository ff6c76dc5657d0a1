mod CutLemmas
mod PairLemmas
mod PlainLemmas
mod SumLemmas
