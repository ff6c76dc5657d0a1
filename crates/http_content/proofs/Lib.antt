pub mod PieceLemmas
