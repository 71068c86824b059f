-- What only the code needs: exact definitions of what a function does where a layout has nothing to say.
pub mod PutRow
