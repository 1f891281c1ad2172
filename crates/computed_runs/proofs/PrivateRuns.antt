-- worked private runs
pub mod Worked
pub mod WorkedProgram
