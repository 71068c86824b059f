-- What only the code needs. A text put in an output is tied to the lines by `line-whole`, `reason-whole`, `counts_whole` and
-- `not-a-list-whole`; counting verdict by verdict is tied to `tally_of` by `count-one` and `plus-all`, and through them by
-- `program-output` of report.
pub mod Putting
pub mod Counting
