mod Short
mod Forms
