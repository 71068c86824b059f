-- What only the code needs: the calls that a file is led through, tied to `verdict` by `file-verdict`, and the program's steps, tied to
-- `output` by `program-output`.
pub mod Files
pub mod Program
