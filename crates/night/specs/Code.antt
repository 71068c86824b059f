-- What only the code needs: what the bays hold in between, of which the night's outcome says nothing.
pub mod Held
